use Rattle.fond_explicit.proofs.Runs.{run_stuck, run_lost}
use Rattle.fond_explicit.proofs.decide.lost.Goals as goal

pub returns : goal.returns
returns c = λ from budget now. (
  run_stuck c.args.t.now from c.args.space.now now c.requires.distinct c.args.hopeful.now c.requires.run c.in_ok-layers.layers c.in_ok-layers.ensures,
  run_lost c.args.t.now from c.args.space.now now c.requires.distinct c.args.hopeful.now c.requires.run c.in_ok-layers.layers c.in_ok-layers.ensures c.requires.start,
)
