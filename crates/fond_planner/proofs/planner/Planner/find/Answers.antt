use Rattle.fond_draft.proofs.Turned.{reached_long}
use Rattle.fond_planner.proofs.planner.Planner.find.Goals as goal

pub find_known-requires-clause-long : goal.find_known-requires-clause-long
find_known-requires-clause-long g c = reached_long c.args.self.now.task.now c.args.state.now c.requires.reachable
