use Rattle.std.proofs.Common.{◌∙◌, Bool, Decides, sym, subst}
use Rattle.fond_task.specs.Layers.{LiesInLayer}
use Rattle.fond_layers.proofs.Firsts.{around}
use Rattle.fond_layers.proofs.indexed.Indexed.has_around.Goals as goal

pub returns : goal.returns
returns c =
    let P : Bool → Type 0 = λ b. Decides b (LiesInLayer c.args.cube.now c.args.self.now) in
    subst P (sym c.is_some.ensures) (around c.args.cube.now c.as_slice.result.now c.args.self.now c.first.result (c.as_slice.ensures ∙ c.self.view_is) c.first.ensures)
