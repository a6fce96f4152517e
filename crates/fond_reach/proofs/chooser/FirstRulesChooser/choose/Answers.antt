use Rattle.std.proofs.Common.{◌≡◌, ◌∙◌, ◌<◌, Some, None, length, sym, subst}
use Rattle.fond_rules.specs.Select.{selected_rule}
use Rattle.fond_task.specs.Policies.{selected}
use Rattle.fond_policy.proofs.Walking.{act_there, chosen_none, chosen_some}
use Rattle.fond_reach.specs.Choices.{TaskRules}
use Rattle.fond_reach.proofs.chooser.FirstRulesChooser.choose.Goals as goal

pub returns-in_default-clause-chosen : goal.returns-in_default-clause-chosen
returns-in_default-clause-chosen c =
    let rules = c.self.inside.rules.now in
    let none : selected_rule rules c.args.state.now ≡ None = sym c.select.ensures ∙ c.in_default.is in
    let P : TaskRules → Type 0 = λ r. None ≡ selected r.rules c.args.state.now in
    subst P c.self.view_is (sym (chosen_none rules c.args.state.now none))

pub returns-clause-chosen : goal.returns-clause-chosen
returns-clause-chosen c =
    let rules = c.self.inside.rules.now in
    let found : selected_rule rules c.args.state.now ≡ Some c.in-Some.rule = sym c.select.ensures ∙ c.in-Some.is in
    let P : TaskRules → Type 0 = λ r. Some c.get.result.now.act ≡ selected r.rules c.args.state.now in
    subst P c.self.view_is (sym (chosen_some rules c.args.state.now c.in-Some.rule c.get.result.now found c.get.ensures))

pub returns-clause-there : goal.returns-clause-there
returns-clause-there c =
    let inside = c.self.inside in
    let P : TaskRules → Type 0 = λ r. c.get.result.now.act < length r.task.acts in
    subst P c.self.view_is (act_there inside.task.now inside.rules.now c.in-Some.rule c.get.result.now c.self.invariant.there c.get.ensures)
