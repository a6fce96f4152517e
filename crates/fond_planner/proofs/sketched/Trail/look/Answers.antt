use Rattle.fond_planner.proofs.Walked.{reachable_more}
use Rattle.fond_planner.proofs.sketched.Trail.look.Goals as goal

pub returns-then-len-3-clause-trail : goal.returns-then-len-3-clause-trail
returns-then-len-3-clause-trail c = record {
  reachable = reachable_more c.args.t.now c.args.self.now.states _ c.args.self.now.step.next c.in_ok-copy.field-0 c.in_ok-add.field-0 c.in_ok-copy.ensures c.in_ok-add.ensures.ok c.requires.next c.requires.trail.reachable;
  state_long = c.requires.trail.state_long;
  next_long = c.requires.trail.next_long;
}

pub returns-clause-trail : goal.returns-clause-trail
returns-clause-trail c = record {
  reachable = reachable_more c.args.t.now c.args.self.now.states _ c.args.self.now.step.next c.in_ok-copy.field-0 c.in_ok-add.field-0 c.in_ok-copy.ensures c.in_ok-add.ensures.ok c.requires.next c.requires.trail.reachable;
  state_long = c.requires.trail.state_long;
  next_long = c.requires.trail.next_long;
}
