use Rattle.std.proofs.Common.{◌≡◌, ◌<◌, ◌+◌, ℕ, Bool, false, sym, ◌∙◌, ap, subst, ⊎_elim, arith}
use Rattle.std.specs.Prelude.{◌||◌}
use Rattle.std.proofs.lemmas.Bool.{cases_lt, or_parts}
use Rattle.std.proofs.lemmas.Option.{slice_get_within}
use Rattle.fond_task.specs.declared.task.Task.{Task}
use Rattle.fond_task.specs.Layers.{CubeView}
use Rattle.fond_regress.specs.Stable.{StaysAt}
use Rattle.fond_regress.specs.Weaker.{IsWeaker}
use Rattle.fond_regress.proofs.Lost.{weaker_twice}
use Rattle.fond_regress.proofs.settle.sweep.Goals.{then-changed, else-changed}
use Rattle.fond_regress.proofs.settle.sweep.Goals as goal

-- one action more stays, if no literal was dropped
stays_more : (task : Task) (two three : CubeView) (x y : Bool) (number : ℕ) → (y ≡ false → three ≡ two) →
    (x ≡ false → (at : ℕ) → at < number → StaysAt task two at) → (y ≡ false → StaysAt task three number) →
    (x || y) ≡ false → (at : ℕ) → at < number + 1 → StaysAt task three at
stays_more task two three x y number none before here is at small =
    let parts = or_parts x y is in
    ⊎_elim
    (λ lt. subst (λ cube. StaysAt task cube at) (sym (none parts.1)) (before parts.0 at lt))
    (λ ge. let last : number ≡ at = omega (arith, small, ge) in subst (StaysAt task three) last (here parts.1))
    (cases_lt at number)

pub loop-number-preserved : goal.loop-number-preserved
loop-number-preserved c =
    let inv = c.loop-number.invariant in
    let told = c.take_numbered-dropped.ensures in
    let one = c.args.cube.now in
    let two = c.loop-number.cube in
    let three = c.take_numbered-dropped.new.cube in
    let x = c.loop-number.changed in
    let y = c.take_numbered-dropped.result in
    let changed : c.if-changed.changed ≡ (x || y) = elim c.if-changed.branch [ then-changed w ↦ w.changed-is ∙ w.if-changed.true ∙ sym (ap (λ b. b || y) w.if-changed.true) | else-changed w ↦ w.changed-is ∙ sym (ap (λ b. b || y) w.if-changed.false) ] in
    record {
      long = told.same_length ∙ inv.long;
      weaker = subst (IsWeaker one three) (sym changed) (weaker_twice one two three x y inv.weaker told.weaker);
      around = λ around long stable lies. told.around around long stable (inv.around around long stable lies);
      stays = λ is. stays_more c.args.t.now two three x y c.loop-number.number told.weaker.none inv.stays told.stays (sym changed ∙ is);
    }

pub returns-clause-stable : goal.returns-clause-stable
returns-clause-stable c = λ is number act has.
    c.loop-number.invariant.stays is number (omega (arith, slice_get_within c.args.t.now.acts number act has, c.len-number-end.ensures, c.loop-number-test.false)) act has
