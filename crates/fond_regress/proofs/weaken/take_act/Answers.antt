use Rattle.std.proofs.Common.{◌≡◌, ◌<◌, ◌+◌, ℕ, Bool, true, false, Some, List, sym, ◌∙◌, ap, subst, ⊎_elim, arith}
use Rattle.std.specs.Prelude.{◌||◌, slice_get, length, IsTrue}
use Rattle.std.specs.List.{list_all}
use Rattle.std.proofs.lemmas.Bool.{cases_lt, or_parts, and_parts}
use Rattle.std.proofs.lemmas.Option.{slice_get_within, same_Some}
use Rattle.fond_state.specs.Cubes.{CubeLiesIn}
use Rattle.fond_task.specs.Within.{is_entry_within}
use Rattle.fond_task.specs.declared.task.Entry.{Entry}
use Rattle.fond_task.specs.Images.{image}
use Rattle.fond_task.proofs.Found.{all_at}
use Rattle.fond_task.specs.Layers.{CubeView}
use Rattle.fond_regress.specs.Stable.{DoesStay}
use Rattle.fond_regress.specs.Weaker.{IsWeaker}
use Rattle.fond_regress.proofs.Lost.{weaker_twice}
use Rattle.fond_regress.proofs.Hopeless.{no_stays, stays_around}
use Rattle.fond_regress.proofs.weaken.take_act.Goals.{then-changed, else-changed}
use Rattle.fond_regress.proofs.weaken.take_act.Goals as goal

pub take_outcome-dropped-requires-clause-within : goal.take_outcome-dropped-requires-clause-within
take_outcome-dropped-requires-clause-within c =
    let P : ℕ → Type 0 = λ n. IsTrue (list_all (is_entry_within n) c.get.result.now) in
    subst P (sym c.loop-k.invariant.weaker.long) (all_at (list_all (is_entry_within (length c.args.cube.now))) c.args.act.now.outcomes c.loop-k.k c.get.result.now (and_parts _ _ c.requires.within).1 (ap (λ (all : List (List Entry)). slice_get all c.loop-k.k) (sym c.deref-in-loop-k.ensures) ∙ c.get.ensures))

-- one outcome more stays, if no literal was dropped
stays_more : (outcomes : List (List Entry)) (two three : CubeView) (own : List Entry) (x y : Bool) (k : ℕ) → slice_get outcomes k ≡ Some own → (y ≡ false → three ≡ two) →
    (x ≡ false → (at : ℕ) (outcome : List Entry) → at < k → slice_get outcomes at ≡ Some outcome → CubeLiesIn (image two outcome) two) → (y ≡ false → CubeLiesIn (image three own) three) →
    (x || y) ≡ false → (at : ℕ) (outcome : List Entry) → at < k + 1 → slice_get outcomes at ≡ Some outcome → CubeLiesIn (image three outcome) three
stays_more outcomes two three own x y k has none before here is at outcome small is_outcome =
    let parts = or_parts x y is in
    ⊎_elim
    (λ lt. subst (λ cube. CubeLiesIn (image cube outcome) cube) (sym (none parts.1)) (before parts.0 at outcome lt is_outcome))
    (λ ge.
    let last : k ≡ at = omega (arith, small, ge) in
    subst (λ o. CubeLiesIn (image three o) three) (same_Some own outcome (sym has ∙ ap (slice_get outcomes) last ∙ is_outcome)) (here parts.1))
    (cases_lt at k)

pub loop-k-preserved : goal.loop-k-preserved
loop-k-preserved c =
    let inv = c.loop-k.invariant in
    let told = c.take_outcome-dropped.ensures in
    let act = c.args.act.now in
    let one = c.args.cube.now in
    let two = c.loop-k.cube in
    let three = c.take_outcome-dropped.new.cube in
    let x = c.loop-k.changed in
    let y = c.take_outcome-dropped.result in
    let changed : c.if-changed.changed ≡ (x || y) = elim c.if-changed.branch [ then-changed w ↦ w.changed-is ∙ w.if-changed.true ∙ sym (ap (λ b. b || y) w.if-changed.true) | else-changed w ↦ w.changed-is ∙ sym (ap (λ b. b || y) w.if-changed.false) ] in
    record {
      long = told.same_length ∙ inv.long;
      weaker = subst (IsWeaker one three) (sym changed) (weaker_twice one two three x y inv.weaker told.weaker);
      may = λ no. inv.may (no_stays three two told.weaker.lies act.pre no);
      around = λ around long lies stays.
          let before = inv.around around long lies stays in
          told.around around before (stays_around two around act (inv.weaker.long ∙ sym long) before stays inv.may c.loop-k.k c.get.result.now (ap (λ (all : List (List Entry)). slice_get all c.loop-k.k) (sym c.deref-in-loop-k.ensures) ∙ c.get.ensures));
      stays = λ is. stays_more act.outcomes two three c.get.result.now x y c.loop-k.k (ap (λ (all : List (List Entry)). slice_get all c.loop-k.k) (sym c.deref-in-loop-k.ensures) ∙ c.get.ensures) told.weaker.none inv.stays told.stays (sym changed ∙ is);
    }

pub returns-clause-stays : goal.returns-clause-stays
returns-clause-stays c = λ is _ at outcome has.
    c.loop-k.invariant.stays is at outcome (omega (arith, slice_get_within c.args.act.now.outcomes at outcome has, c.len-k-end.ensures ∙ ap length c.deref-2.ensures, c.loop-k-test.false)) has
