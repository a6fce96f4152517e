use Rattle.std.proofs.Common.{◌∙◌, length, ap}
use Rattle.fond_planner.proofs.Walked.{first_reachable}
use Rattle.fond_planner.proofs.planner.Planner.walk.Goals as goal

pub walk_on-requires-clause-reachable : goal.walk_on-requires-clause-reachable
walk_on-requires-clause-reachable g c = first_reachable c.args.self.now.task.now _ c.in_ok-states.ensures

pub walk_on-requires-clause-state_long : goal.walk_on-requires-clause-state_long
walk_on-requires-clause-state_long g c = ap length c.in_ok-step.ensures.state ∙ c.args.self.now.task.now.init_long

pub walk_on-requires-clause-next_long : goal.walk_on-requires-clause-next_long
walk_on-requires-clause-next_long g c = ap length c.in_ok-step.ensures.next ∙ c.args.self.now.task.now.init_long
