use Rattle.std.proofs.Common.{◌≡◌, sym, ◌∙◌, ap, subst}
use Rattle.std.specs.Prelude.{◌||◌}
use Rattle.fond_regress.specs.Weaker.{IsWeaker}
use Rattle.fond_regress.proofs.Lost.{weaker_twice}
use Rattle.fond_regress.proofs.settle.sweep_back.Goals.{then-changed, else-changed}
use Rattle.fond_regress.proofs.settle.sweep_back.Goals as goal

pub loop-done-preserved : goal.loop-done-preserved
loop-done-preserved c =
    let inv = c.loop-done.invariant in
    let told = c.take_numbered-dropped.ensures in
    let one = c.args.cube.now in
    let two = c.loop-done.cube in
    let three = c.take_numbered-dropped.new.cube in
    let x = c.loop-done.changed in
    let y = c.take_numbered-dropped.result in
    let changed : c.if-changed.changed ≡ (x || y) = elim c.if-changed.branch [ then-changed w ↦ w.changed-is ∙ w.if-changed.true ∙ sym (ap (λ b. b || y) w.if-changed.true) | else-changed w ↦ w.changed-is ∙ sym (ap (λ b. b || y) w.if-changed.false) ] in
    record {
      long = told.same_length ∙ inv.long;
      weaker = subst (IsWeaker one three) (sym changed) (weaker_twice one two three x y inv.weaker told.weaker);
      around = λ around long stable lies. told.around around long stable (inv.around around long stable lies);
    }
