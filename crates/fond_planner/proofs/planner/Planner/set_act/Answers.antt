use Rattle.std.proofs.Common.{◌≡◌, ◌∙◌, ℕ, sym, subst}
use Rattle.fond_policy.proofs.Walking.{applies, not_goal}
use Rattle.fond_rules.specs.Select.{AreOver}
use Rattle.std.proofs.lemmas.Option.{same_Some}
use Rattle.fond_state.specs.Cubes.{LiesIn}
use Rattle.fond_task.specs.declared.rule.Rule.{Rule}
use Rattle.fond_draft.proofs.Barring.{free_by}
use Rattle.fond_draft.proofs.Ready.{reachable_long}
use Rattle.fond_draft.proofs.Rules.{selected_holds}
use Rattle.fond_planner.proofs.planner.Planner.set_act.Goals as goal

pub is_goal-requires : goal.is_goal-requires
is_goal-requires g c = reachable_long c.args.self.now.task.now c.args.self.now.task.now.init c.args.self.now.task.now.init_long c.args.step.now.state c.requires.here

pub select-requires : goal.select-requires
select-requires g c =
    let long = reachable_long c.args.self.now.task.now c.args.self.now.task.now.init c.args.self.now.task.now.init_long c.args.step.now.state c.requires.here in
    subst (λ (n : ℕ). AreOver n c.args.self.now.draft.rules) (sym long) c.requires.planner.draft.rules.belong.over

pub returns-clause-outset : goal.returns-clause-outset
returns-clause-outset g c = λ yes.
    let task = c.args.self.now.task.now in
    let draft = c.args.self.now.draft in
    let rule = c.get.result.now in
    let lean = c.requires.planner.draft.rules.lean c.in-Some.rule rule c.get.ensures in
    record {
      reachable = c.requires.here;
      open_ = not_goal _ (sym c.is_goal.ensures ∙ c.if-is_goal.false);
      act = lean.sure.act;
      has_act = lean.sure.has_act;
      applicable = applies task draft.pairs draft.rules c.args.step.now.state c.in-Some.rule rule (sym c.select.ensures ∙ c.in-Some.is) c.get.ensures lean.sure lean.sure.act lean.sure.has_act;
      long = c.requires.next_long;
    }

pub returns-clause-free : goal.returns-clause-free
returns-clause-free g c = λ yes.
    let draft = c.args.self.now.draft in
    let rule = c.get.result.now in
    let lean = c.requires.planner.draft.rules.lean c.in-Some.rule rule c.get.ensures in
    let holds = selected_holds draft.rules c.args.step.now.state c.in-Some.rule (sym c.select.ensures ∙ c.in-Some.is) in
    let same : holds.rule ≡ rule = same_Some holds.rule rule (sym holds.numbered ∙ c.get.ensures) in
    free_by draft.pairs rule.act c.args.step.now.state rule.cond (subst (λ (r : Rule). LiesIn c.args.step.now.state r.cond) same holds.lies) lean.sure.barred
