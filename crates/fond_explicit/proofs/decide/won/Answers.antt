use Rattle.fond_explicit.proofs.Runs.{run_stuck, run_won}
use Rattle.fond_explicit.proofs.decide.won.Goals as goal

pub returns : goal.returns
returns c = λ from budget now. (
  run_won c.args.t.now from c.args.space.now now c.requires.distinct c.args.sound.now c.requires.sound_run c.in_ok-choices.choices c.in_ok-choices.ensures c.requires.start,
  run_stuck c.args.t.now from c.args.space.now now c.requires.distinct c.args.hopeful.now c.requires.run c.in_ok-layers.layers c.in_ok-layers.ensures,
)
