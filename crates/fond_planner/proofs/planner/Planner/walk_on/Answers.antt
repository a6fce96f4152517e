use Rattle.std.proofs.Common.{◌∙◌, length, sym, ap, subst}
use Rattle.fond_task.proofs.Lists.{Contains_numbered}
use Rattle.fond_explicit.specs.Answers.{IsReachable}
use Rattle.fond_draft.proofs.Ready.{reachable_long}
use Rattle.fond_planner.proofs.Kept.{keeps_on, long_on}
use Rattle.fond_planner.proofs.planner.Planner.walk_on.Goals as goal

pub copy_from-requires : goal.copy_from-requires
copy_from-requires g c =
    let task = c.loop-at.self.task.now in
    let here = c.loop-at.invariant.reachable c.get.result.now (Contains_numbered c.loop-at.states c.loop-at.at c.get.result.now c.get.ensures) in
    c.loop-at.invariant.state_long ∙ sym (reachable_long task task.init task.init_long c.get.result.now here)

pub visit-requires-clause-here : goal.visit-requires-clause-here
visit-requires-clause-here g c =
    let task = c.loop-at.self.task.now in
    let here = c.loop-at.invariant.reachable c.get.result.now (Contains_numbered c.loop-at.states c.loop-at.at c.get.result.now c.get.ensures) in
    subst (IsReachable task task.init) (sym c.copy_from.ensures) here

pub loop-at-preserved : goal.loop-at-preserved
loop-at-preserved g c =
    let task = c.loop-at.self.task.now in
    let told = c.in_ok-visit.ensures in
    let here = c.loop-at.invariant.reachable c.get.result.now (Contains_numbered c.loop-at.states c.loop-at.at c.get.result.now c.get.ensures) in
    record {
      keeps = keeps_on c.loop-at.invariant.keeps told.keeps;
      reachable = told.reachable;
      state_long = long_on told.keeps _ (ap length told.same ∙ ap length c.copy_from.ensures ∙ reachable_long task task.init task.init_long c.get.result.now here);
      next_long = long_on told.keeps _ (told.long ∙ c.loop-at.invariant.next_long);
    }
