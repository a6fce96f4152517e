use Rattle.fond_planner.proofs.Kept.{reachable_on}
use Rattle.fond_planner.proofs.Walked.{next_reachable, reachable_more}
use Rattle.fond_planner.proofs.planner.Planner.take.Goals as goal

pub returns-clause-reachable : goal.returns-clause-reachable
returns-clause-reachable g c =
    let task = c.args.self.now.task.now in
    let next = next_reachable task c.args.step.now c.requires.step in
    reachable_on c.in_ok-within.ensures.keeps c.add.new.self
    (reachable_more task c.args.states.now c.add.new.self c.args.step.now.next c.in_ok-copy.field-0 c.in_ok-add.field-0 c.in_ok-copy.ensures c.in_ok-add.ensures.ok next c.requires.reachable)
