use Rattle.fond_explicit.proofs.Wholes.{run_split}
use Rattle.fond_explicit.proofs.whole.split.Goals as goal

pub returns : goal.returns
returns c = λ budget.
    run_split c.args.t.now c.args.space.now c.requires.space c.requires.distinct c.requires.all c.args.fates.now c.requires.run
    c.in_ok-choices.choices c.in_ok-choices.ensures c.in_ok-layers.layers c.in_ok-layers.ensures
