use Rattle.std.proofs.Common.{rules, ◌≡◌, ◌∙◌, length, sym, ap, subst, true, false, Some, None, arith}
use Rattle.fond_rules.specs.Select.{selected_rule}
use Rattle.fond_exec.specs.Runs.{Run}
use Rattle.fond_exec.specs.Steps.{IsChosen, IsStuck}
use Rattle.fond_exec.proofs.Chosen.{counted_outcomes, differs, act_there, chooses, none_chosen, none_applicable}
use Rattle.fond_exec.proofs.executor.Executor.choice.Goals as goal

pub returns-in_default : goal.returns-in_default
returns-in_default c =
    let run = c.self.inside in
    let none : selected_rule run.rules.now run.state ≡ None = search rules in
    let P : Run → Type 0 = λ r. IsStuck r.task r.rules r.state in
    (differs _ (sym c.done.ensures ∙ c.if-done.false), subst P c.self.view_is (none_chosen run.rules.now run.state run.task.now none))

pub applicable-requires-clause-there : goal.applicable-requires-clause-there
applicable-requires-clause-there c =
    let run = c.self.inside in
    act_there run.task.now run.rules.now c.in-Some.rule c.get.result.now c.self.invariant.0.there c.get.ensures

pub returns-then-not-applicable : goal.returns-then-not-applicable
returns-then-not-applicable c =
    let run = c.self.inside in
    let is : selected_rule run.rules.now run.state ≡ Some c.in-Some.rule = search rules in
    let fails : c.applicable.result ≡ false = search rules in
    let P : Run → Type 0 = λ r. IsStuck r.task r.rules r.state in (
      differs _ (sym c.done.ensures ∙ c.if-done.false),
      subst P c.self.view_is (none_applicable run.rules.now run.state run.task.now c.get.result.now.act c.applicable.result (chooses run.rules.now run.state c.in-Some.rule c.get.result.now is c.get.ensures) c.applicable.ensures fails),
    )

pub get-requires-2 : goal.get-requires-2
get-requires-2 c =
    let run = c.self.inside in
    act_there run.task.now run.rules.now c.in-Some.rule c.get.result.now c.self.invariant.0.there c.get.ensures

pub returns : goal.returns
returns c =
    let run = c.self.inside in
    let is : selected_rule run.rules.now run.state ≡ Some c.in-Some.rule = search rules in
    let yes : c.applicable.result ≡ true = search rules in
    let act = c.get-2.result.now in
    let P : Run → Type 0 = λ r. IsChosen r.task r.rules r.state c.get.result.now.act act in
    let Q : Run → Type 0 = λ r. selected_rule r.rules r.state ≡ Some c.in-Some.rule in
    let chosen : IsChosen run.task.now run.rules.now run.state c.get.result.now.act act = record {
      selects = chooses run.rules.now run.state c.in-Some.rule c.get.result.now is c.get.ensures;
      numbered = c.get-2.ensures;
      holds = sym (c.applicable.ensures act c.get-2.ensures) ∙ yes;
    } in
    (differs _ (sym c.done.ensures ∙ c.if-done.false), subst Q c.self.view_is is, (act, subst P c.self.view_is chosen, search rules))

pub overflow_cast-count : goal.overflow_cast-count
overflow_cast-count c =
    let counted = counted_outcomes c.self.inside.task.now c.get.result.now.act c.get-2.result.now c.get-2.ensures in
    omega (arith, counted.1, c.len-count.ensures ∙ ap length c.deref.ensures)
