use Rattle.std.proofs.Common.{[], sym, ◌∙◌, subst}
use Rattle.fond_task.specs.Layers.{CubeView}
use Rattle.fond_explicit.specs.Strata.{IsPut}
use Rattle.fond_explicit.proofs.Choosing.{rounds_skip, rounds_more}
use Rattle.fond_explicit.proofs.strata.put_node.Goals as goal

pub returns-in_default : goal.returns-in_default
returns-in_default c = record {
  rounds = λ before. rounds_skip c.args.states.now c.requires.distinct [] c.args.fates.now c.args.node c.args.layers.now.items before (λ round is. c.in_default.not-Fallen round (c.fate_of.ensures ∙ is));
  few = λ early small. small;
}

pub returns-clause-rounds : goal.returns-clause-rounds
returns-clause-rounds c = λ before.
    let P : CubeView → Type 0 = λ cube. IsPut c.args.layers.now.items c.put.new.layers.items c.in-Fallen.round cube in
    rounds_more c.args.states.now c.requires.distinct [] c.args.fates.now c.args.node c.args.layers.now.items before c.put.new.layers.items c.in-Fallen.round c.get.result.now c.get.ensures
    (sym c.fate_of.ensures ∙ c.in-Fallen.is) (subst P c.in_ok-cube.ensures c.in_ok-put.ensures)
