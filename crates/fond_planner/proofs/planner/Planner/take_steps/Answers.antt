use Rattle.std.proofs.Common.{◌∙◌, length, ap}
use Rattle.fond_draft.proofs.Turned.{reached_long}
use Rattle.fond_planner.proofs.Kept.{rules_over}
use Rattle.fond_planner.proofs.planner.Planner.take_steps.Goals as goal

pub make_turns-requires-clause-next_long : goal.make_turns-requires-clause-next_long
make_turns-requires-clause-next_long g c = ap length c.in_ok-next.ensures ∙ reached_long c.args.self.now.task.now c.args.state.now c.requires.reachable

pub select-requires : goal.select-requires
select-requires g c = rules_over c.in_ok-earlier.ensures.keeps c.args.state.now (reached_long c.args.self.now.task.now c.args.state.now c.requires.reachable)
