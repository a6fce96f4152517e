use Rattle.std.proofs.Common.{◌∙◌, length, ap}
use Rattle.fond_planner.proofs.Walked.{first_reachable}
use Rattle.fond_planner.proofs.sketched.trail_of.Goals as goal

pub returns : goal.returns
returns c = record {
  reachable = first_reachable c.args.t.now _ c.in_ok-states.ensures;
  state_long = ap length c.in_ok-step.ensures.state ∙ c.args.t.now.init_long;
  next_long = ap length c.in_ok-step.ensures.next ∙ c.args.t.now.init_long;
}
