use Rattle.std.proofs.Common.{◌∙◌, refl, sym, subst}
use Rattle.fond_task.proofs.Lists.{Contains_numbered}
use Rattle.fond_task.specs.declared.task.Task.{Task}
use Rattle.fond_explicit.specs.Answers.{IsReachable}
use Rattle.fond_draft.proofs.Ready.{reachable_long}
use Rattle.fond_planner.proofs.Kept.{trail_on}
use Rattle.fond_planner.proofs.Walked.{next_reachable, still_trail}
use Rattle.fond_planner.proofs.planner.Planner.follow.Goals as goal

pub copy_from-requires : goal.copy_from-requires
copy_from-requires g c =
    let task = c.args.self.now.task.now in
    let here = c.requires.trail.reachable c.get.result.now (Contains_numbered c.args.trail.now.states c.args.edge.node c.get.result.now c.get.ensures) in
    c.requires.trail.state_long ∙ sym (reachable_long task task.init task.init_long c.get.result.now here)

pub set_out-requires-clause-here : goal.set_out-requires-clause-here
set_out-requires-clause-here g c =
    let task = c.args.self.now.task.now in
    let here = c.requires.trail.reachable c.get.result.now (Contains_numbered c.args.trail.now.states c.args.edge.node c.get.result.now c.get.ensures) in
    subst (IsReachable task task.init) (sym c.copy_from.ensures) here

pub returns-then-not-set_out-clause-trail : goal.returns-then-not-set_out-clause-trail
returns-then-not-set_out-clause-trail g c =
    let task = c.args.self.now.task.now in
    let here = c.requires.trail.reachable c.get.result.now (Contains_numbered c.args.trail.now.states c.args.edge.node c.get.result.now c.get.ensures) in
    still_trail task c.args.trail.now _ c.requires.trail refl (subst (IsReachable task task.init) (sym (c.set_out.ensures.same ∙ c.copy_from.ensures)) here) c.set_out.ensures.long

pub settle_next-requires-clause-step : goal.settle_next-requires-clause-step
settle_next-requires-clause-step g c = c.set_out.ensures.step c.if-not-set_out.false

pub returns-then-not-branch-clause-trail : goal.returns-then-not-branch-clause-trail
returns-then-not-branch-clause-trail g c =
    let task = c.args.self.now.task.now in
    let here = c.requires.trail.reachable c.get.result.now (Contains_numbered c.args.trail.now.states c.args.edge.node c.get.result.now c.get.ensures) in
    trail_on c.in_ok-settle_next.ensures.keeps _ (still_trail task c.args.trail.now _ c.requires.trail refl (subst (IsReachable task task.init) (sym (c.set_out.ensures.same ∙ c.copy_from.ensures)) here) c.set_out.ensures.long)

pub look-requires-clause-trail : goal.look-requires-clause-trail
look-requires-clause-trail g c =
    let task = c.args.self.now.task.now in
    let here = c.requires.trail.reachable c.get.result.now (Contains_numbered c.args.trail.now.states c.args.edge.node c.get.result.now c.get.ensures) in
    trail_on c.in_ok-settle_next.ensures.keeps _ (still_trail task c.args.trail.now _ c.requires.trail refl (subst (IsReachable task task.init) (sym (c.set_out.ensures.same ∙ c.copy_from.ensures)) here) c.set_out.ensures.long)

pub look-requires-clause-next : goal.look-requires-clause-next
look-requires-clause-next g c =
    let task = c.args.self.now.task.now in
    subst (λ (t : Task). IsReachable t t.init c.set_out.new.step.next) (sym c.in_ok-settle_next.ensures.keeps.planner.same_task)
    (next_reachable c.args.self.now.task.now c.set_out.new.step (c.set_out.ensures.step c.if-not-set_out.false))

pub settle_next-requires-clause-free : goal.settle_next-requires-clause-free
settle_next-requires-clause-free g c = c.set_out.ensures.free c.if-not-set_out.false
