-- Bytes that are put one after the other.
use Rattle.std.proofs.Common.{◌≡◌, ℕ, ◌≤◌, true, false, List, [], ◌++◌, Option, Result, Ok, Err, OnOk, OnErr, refl, sym, subst, ap, ◌∙◌, arith, append-nil}
use Rattle.std.proofs.lemmas.Bool.{false≢true}
use Rattle.fond_edge.specs.Faults.{Rose}
use Rattle.fond_edge.specs.Written.{Appended, AppendedPart}
use Rattle.fond_edge.specs.PenState.{PenState}
use Rattle.fond_edge.specs.Pens.{Flow, flow, IsPut, IsLost}
use Rattle.fond_edge.specs.WriterLaws.{appended_twice, part_after, part_of_more, then_rose, nothing_appended}

-- bytes that fit into the buffer are put by keeping them
pub put_by_keeping : (written : Option (List ℕ)) (faults : ℕ) (old new : PenState) (bytes : List ℕ) → old.failed ≡ false → new ≡ record { pending = old.pending ++ bytes; failed = old.failed } →
    IsPut (flow written faults old) (flow written faults new) bytes
put_by_keeping written faults old new bytes sound same = rw same (record {
  front = [];
  appended = nothing_appended written;
  split = refl;
  was_sound = sound;
  is_sound = sound;
  counted = omega arith;
})

-- the pending bytes could not be written, and so the new ones are lost too
pub lost_in_flush : {T E : Type 0} (r : Result T E) (w0 w1 : Option (List ℕ)) (f0 f1 : ℕ) (old new : PenState) (bytes : List ℕ) → old.failed ≡ false →
    AppendedPart w0 w1 old.pending → Rose f0 f1 → new.failed ≡ true → f0 ≤ f1 → OnErr r (IsLost (flow w0 f0 old) (flow w1 f1 new) bytes)
lost_in_flush (Ok _) w0 w1 f0 f1 old new bytes sound part rose failed up = tt
lost_in_flush (Err _) w0 w1 f0 f1 old new bytes sound part rose failed up = record {
  failed = failed;
  part = λ _. part_of_more w0 w1 old.pending bytes part;
  rose = λ _. rose;
  still = λ e. absurd (false≢true (sym sound ∙ e));
  counted = up;
}

-- all pending bytes were written, and the new ones are kept
pub put_after_flush : (w0 w1 : Option (List ℕ)) (f0 f1 : ℕ) (old now new : PenState) (bytes : List ℕ) → old.failed ≡ false → Appended w0 w1 old.pending → f0 ≤ f1 →
    now ≡ record { pending = []; failed = false } → new ≡ record { pending = now.pending ++ bytes; failed = now.failed } → IsPut (flow w0 f0 old) (flow w1 f1 new) bytes
put_after_flush w0 w1 f0 f1 old now new bytes sound flushed up clear same =
    let kept : new ≡ record { pending = bytes; failed = false } = same ∙ ap (λ (pen : PenState). record { pending = pen.pending ++ bytes; failed = pen.failed }) clear in
    rw kept (record {
      front = old.pending;
      appended = flushed;
      split = refl;
      was_sound = sound;
      is_sound = refl;
      counted = up;
    })

-- all pending bytes were written, and then bytes past the buffer
module _ {T E : Type 0} (w0 w1 w2 : Option (List ℕ)) (f0 f1 f2 : ℕ) (old new : PenState) (bytes : List ℕ) (sound : old.failed ≡ false)
    (flushed : Appended w0 w1 old.pending) (up : f0 ≤ f1) (further : f1 ≤ f2) where
  pub passed : (r : Result T E) → OnOk r (Appended w1 w2 bytes) → OnOk r (new ≡ record { pending = []; failed = false }) →
      OnOk r (IsPut (flow w0 f0 old) (flow w2 f2 new) bytes)
  passed (Ok _) appended same = rw same (record {
    front = old.pending ++ bytes;
    appended = appended_twice w0 w1 w2 old.pending bytes flushed appended;
    split = append-nil (old.pending ++ bytes);
    was_sound = sound;
    is_sound = refl;
    counted = omega (arith, up, further);
  })
  passed (Err _) appended same = tt

  pub lost : (r : Result T E) → OnErr r (AppendedPart w1 w2 bytes) → OnErr r (Rose f1 f2) → OnErr r (new.failed ≡ true) →
      OnErr r (IsLost (flow w0 f0 old) (flow w2 f2 new) bytes)
  lost (Ok _) part rose failed = tt
  lost (Err _) part rose failed = record {
    failed = failed;
    part = λ _. part_after w0 w1 w2 old.pending bytes flushed part;
    rose = λ _. then_rose f0 f1 f2 up rose;
    still = λ e. absurd (false≢true (sym sound ∙ e));
    counted = omega (arith, up, further);
  }

-- what holds holds after an error
pub on_err : {T E X : Type 0} (r : Result T E) → X → OnErr r X
on_err (Ok _) holds = tt
on_err (Err _) holds = holds

-- a text was put into a new pen
module _ (before now : Flow) (text : List ℕ) (new : before.pen ≡ record { pending = []; failed = false }) where
  was_sound : before.pen.failed ≡ false
  was_sound = ap (λ pen. pen.failed) new

  whole_is : (front rest : List ℕ) → front ++ rest ≡ before.pen.pending ++ text → front ++ rest ≡ text
  whole_is front rest split = split ∙ ap (λ pen. pen.pending ++ text) new

  pub lost_part : IsLost before now text → AppendedPart before.written now.written text
  lost_part first = subst (λ whole. AppendedPart before.written now.written whole) (ap (λ pen. pen.pending ++ text) new) (first.part was_sound)

  pub lost_rose : IsLost before now text → Rose before.faults now.faults
  lost_rose first = first.rose was_sound

  -- and then the pen was finished
  module _ {T E : Type 0} (last : Option (List ℕ)) (faults : ℕ) (first : IsPut before now text) where
    pub sent_whole : (r : Result T E) → OnOk r (Appended now.written last now.pen.pending) → OnOk r (Appended before.written last text)
    sent_whole (Ok _) second =
        subst (λ whole. Appended before.written last whole) (whole_is first.front now.pen.pending first.split)
        (appended_twice before.written now.written last first.front now.pen.pending first.appended second)
    sent_whole (Err _) second = tt

    pub sent_part : (r : Result T E) → (now.pen.failed ≡ false → OnErr r (AppendedPart now.written last now.pen.pending)) → OnErr r (AppendedPart before.written last text)
    sent_part (Ok _) second = tt
    sent_part (Err _) second =
        subst (λ whole. AppendedPart before.written last whole) (whole_is first.front now.pen.pending first.split)
        (part_after before.written now.written last first.front now.pen.pending first.appended (second first.is_sound))

    pub sent_rose : (r : Result T E) → (now.pen.failed ≡ false → OnErr r (Rose now.faults faults)) → OnErr r (Rose before.faults faults)
    sent_rose (Ok _) second = tt
    sent_rose (Err _) second = then_rose before.faults now.faults faults first.counted (second first.is_sound)
