use Rattle.std.proofs.Common.{arith}
use Rattle.fond_explicit.proofs.Runs.{run_opened}
use Rattle.fond_explicit.proofs.decide.decide_by.Goals as goal

pub won-requires-clause-sound_run : goal.won-requires-clause-sound_run
won-requires-clause-sound_run c =
    run_opened c.args.t.now c.args.space.now c.args.hopeful.now (omega (arith, c.if-space-nodes.true, c.len-nodes.ensures.counted)) c.requires.run
