use Rattle.std.proofs.Common.{length, ap, ◌∙◌}
use Rattle.fond_draft.proofs.Turned.{reached_long}
use Rattle.fond_draft.proofs.replay.replay.Goals as goal

pub replay_on-requires-clause-next_long : goal.replay_on-requires-clause-next_long
replay_on-requires-clause-next_long c = ap length c.in_ok-next.ensures ∙ reached_long c.args.t.now c.args.from.now c.requires
