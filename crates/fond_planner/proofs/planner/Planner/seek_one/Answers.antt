use Rattle.fond_draft.proofs.Turned.{reached_long}
use Rattle.fond_planner.proofs.planner.Planner.seek_one.Goals as goal

pub is_known-requires-clause-long : goal.is_known-requires-clause-long
is_known-requires-clause-long g c = reached_long c.args.self.now.task.now c.args.state.now c.requires.reachable

pub learn_dead-requires-clause-long : goal.learn_dead-requires-clause-long
learn_dead-requires-clause-long g c = reached_long c.args.self.now.task.now c.args.state.now c.requires.reachable
