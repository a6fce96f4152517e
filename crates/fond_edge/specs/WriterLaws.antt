-- The laws of a sink that is written through a pen.
use Rattle.std.proofs.Common.{◌≡◌, ℕ, ◌+◌, inl, inr, ◌≤◌, Bool, true, false, List, [], ◌++◌, length, take, Option, None, Some, refl, sym, ap, ◌∙◌, arith, append-nil, append_assoc, length-append}
use Rattle.std.proofs.Math.Seq.{take-append-add}
use Rattle.std.proofs.lemmas.Bool.{false≢true}
use Rattle.std.proofs.lemmas.List.{take-append-le}
use Rattle.fond_edge.specs.Faults.{Rose}
use Rattle.fond_edge.specs.Written.{Appended, AppendedPart}
use Rattle.fond_edge.specs.PenState.{PenState}
use Rattle.fond_edge.specs.Pens.{Flow, flow, IsPut, IsLost, Adds, Writes}

-- bytes that are appended one after the other are appended as a whole
pub appended_twice : (old now new : Option (List ℕ)) (front more : List ℕ) → Appended old now front → Appended now new more → Appended old new (front ++ more)
appended_twice None now new front more first second = rw first at second
appended_twice (Some written) now new front more first second =
    (rw first at second) ∙ ap Some (append_assoc written front more)

-- a part of the later bytes after all of the earlier ones
pub part_after : (old now new : Option (List ℕ)) (front bytes : List ℕ) → Appended old now front → AppendedPart now new bytes → AppendedPart old new (front ++ bytes)
part_after old now new front bytes first part = record {
  count = length front + part.count;
  proper = omega (arith, part.proper, length-append front bytes);
  appended =
      rw (take-append-add front bytes part.count) (appended_twice old now new front (take part.count bytes) first part.appended);
}

-- a part of bytes is a part of more bytes
pub part_of_more : (old new : Option (List ℕ)) (bytes more : List ℕ) → AppendedPart old new bytes → AppendedPart old new (bytes ++ more)
part_of_more old new bytes more part = record {
  count = part.count;
  proper = omega (arith, part.proper, length-append bytes more);
  appended =
      let within : part.count ≤ length bytes = omega (arith, part.proper) in
      rw (take-append-le part.count bytes more within) part.appended;
}

-- a count that increased is increased later
rose_then : (a b c : ℕ) → Rose a b → b ≤ c → Rose a c
rose_then a b c rose le = omega (arith, rose, le)

-- a count that increases after a while has increased
pub then_rose : (a b c : ℕ) → a ≤ b → Rose b c → Rose a c
then_rose a b c le rose = omega (arith, rose, le)

module _ (before now after : Flow) (bytes more : List ℕ) where
  -- what is put one after the other is put as a whole
  pub put_twice : IsPut before now bytes → IsPut now after more → IsPut before after (bytes ++ more)
  put_twice first second = record {
    front = first.front ++ second.front;
    appended = appended_twice before.written now.written after.written first.front second.front first.appended second.appended;
    split =
        append_assoc first.front second.front after.pen.pending ∙ ap (λ t. first.front ++ t) second.split
        ∙ sym (append_assoc first.front now.pen.pending more) ∙ ap (λ t. t ++ more) first.split
        ∙ append_assoc before.pen.pending bytes more;
    was_sound = first.was_sound;
    is_sound = second.is_sound;
    counted = omega (arith, first.counted, second.counted);
  }

  -- what is lost after something was put is lost with it
  pub put_then_lost : IsPut before now bytes → IsLost now after more → IsLost before after (bytes ++ more)
  put_then_lost first second = record {
    failed = second.failed;
    part = λ e.
        let whole : first.front ++ (now.pen.pending ++ more) ≡ before.pen.pending ++ (bytes ++ more) =
        sym (append_assoc first.front now.pen.pending more) ∙ ap (λ t. t ++ more) first.split ∙ append_assoc before.pen.pending bytes more in
        rw (sym whole) (part_after before.written now.written after.written first.front (now.pen.pending ++ more) first.appended (second.part first.is_sound));
    rose = λ e. then_rose before.faults now.faults after.faults first.counted (second.rose first.is_sound);
    still = λ e. absurd (false≢true (sym first.was_sound ∙ e));
    counted = omega (arith, first.counted, second.counted);
  }

  -- what is lost one after the other is lost as a whole
  pub lost_then : IsLost before now bytes → IsLost now after more → IsLost before after (bytes ++ more)
  lost_then first second =
      let still : after.written ≡ now.written = second.still first.failed in record {
        failed = second.failed;
        part = λ e.
            rw (sym (append_assoc before.pen.pending bytes more))
            (rw still (part_of_more before.written now.written (before.pen.pending ++ bytes) more (first.part e)));
        rose = λ e. rose_then before.faults now.faults after.faults (first.rose e) second.counted;
        still = λ e. still ∙ first.still e;
        counted = omega (arith, first.counted, second.counted);
      }

  -- what is added one after the other is added as a whole
  pub adds_then : Adds before now bytes → Adds now after more → Adds before after (bytes ++ more)
  adds_then (inl first) (inl second) = inl (put_twice first second)
  adds_then (inl first) (inr second) = inr (put_then_lost first second)
  adds_then (inr first) (inl second) = absurd (false≢true (sym second.was_sound ∙ first.failed))
  adds_then (inr first) (inr second) = inr (lost_then first second)

-- nothing is appended by doing nothing
pub nothing_appended : (written : Option (List ℕ)) → Appended written written []
nothing_appended None = refl
nothing_appended (Some written) = ap Some (sym (append-nil written))

-- nothing is added by doing nothing, whether the pen has failed or not
nothing_at : (written : Option (List ℕ)) (faults : ℕ) (pen : PenState) (failed : Bool) → pen.failed ≡ failed → Adds (flow written faults pen) (flow written faults pen) []
nothing_at written faults pen false e = inl (record {
  front = [];
  appended = nothing_appended written;
  split = sym (append-nil pen.pending);
  was_sound = e;
  is_sound = e;
  counted = omega arith;
})
nothing_at written faults pen true e = inr (record {
  failed = e;
  part = λ sound. absurd (false≢true (sym sound ∙ e));
  rose = λ sound. absurd (false≢true (sym sound ∙ e));
  still = λ _. refl;
  counted = omega arith;
})

-- nothing is added by doing nothing
pub adds_nothing : (written : Option (List ℕ)) (faults : ℕ) (pen : PenState) → Adds (flow written faults pen) (flow written faults pen) []
adds_nothing written faults pen = nothing_at written faults pen pen.failed refl

-- a pen that has failed loses all that is put
pub lost_by_failed : (written : Option (List ℕ)) (faults : ℕ) (pen : PenState) (bytes : List ℕ) → pen.failed ≡ true → IsLost (flow written faults pen) (flow written faults pen) bytes
lost_by_failed written faults pen bytes failed = record {
  failed = failed;
  part = λ sound. absurd (false≢true (sym sound ∙ failed));
  rose = λ sound. absurd (false≢true (sym sound ∙ failed));
  still = λ _. refl;
  counted = omega arith;
}

-- the laws of a writer: nothing is added by doing nothing
pub writes_nothing : {P S : Type 0} {p : P} {s : S} (written : Option (List ℕ)) (faults : ℕ) (pen : PenState) → Writes p p s s (flow written faults pen) (flow written faults pen) []
writes_nothing written faults pen = (refl, refl, adds_nothing written faults pen)

-- texts that are added one after the other are added as a whole
pub writes_then : {P S : Type 0} {p q r : P} {s t u : S} {before now after : Flow} {text more : List ℕ} →
    Writes p q s t before now text → Writes q r t u now after more → Writes p r s u before after (text ++ more)
writes_then (pen, sink, first) (pen', sink', second) = (pen ∙ pen', sink ∙ sink', adds_then _ _ _ _ _ first second)

-- whatever is added after a failure is lost
pub writes_failed : {P S : Type 0} {p : P} {s : S} (written : Option (List ℕ)) (faults : ℕ) (pen : PenState) (text : List ℕ) → pen.failed ≡ true →
    Writes p p s s (flow written faults pen) (flow written faults pen) text
writes_failed written faults pen text failed = (refl, refl, inr (lost_by_failed written faults pen text failed))
