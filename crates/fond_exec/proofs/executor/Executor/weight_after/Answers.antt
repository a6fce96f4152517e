use Rattle.std.proofs.Common.{◌≡◌, ◌∙◌, List, ap, subst, Some, slice_get}
use Rattle.fond_task.specs.Steps.{next_state}
use Rattle.fond_task.specs.declared.rule.Rule.{Rule}
use Rattle.fond_exec.specs.Duels.{weight}
use Rattle.fond_exec.specs.Runs.{Run}
use Rattle.fond_exec.proofs.executor.Executor.weight_after.Goals as goal

pub returns-clause-weight : goal.returns-clause-weight
returns-clause-weight c =
    let run = c.self.inside in
    λ act entries at picked.
    let P : Run → Type 0 = λ r. slice_get r.task.acts c.args.act ≡ Some act → c.weight_of.result ≡ weight r.task r.rules (next_state r.state entries) in
    subst P c.self.view_is (λ own. c.weight_of.ensures ∙ ap (λ (rules : List Rule). weight run.task.now rules c.apply_into.new.out) c.self.invariant.1 ∙ ap (weight run.task.now run.rules.now) (c.apply_into.ensures.next act entries own picked)) at
