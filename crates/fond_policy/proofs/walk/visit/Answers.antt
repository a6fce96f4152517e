use Rattle.std.proofs.Common.{◌≡◌, ◌∙◌, ℕ, List, Some, None, ap, sym, subst}
use Rattle.std.proofs.lemmas.Option.{same_Some, none-some}
use Rattle.fond_rules.specs.Select.{selected_rule}
use Rattle.fond_task.specs.Policies.{IsNext, selected}
use Rattle.fond_task.specs.declared.rule.Rule.{Rule}
use Rattle.fond_policy.proofs.Walking.{act_there, applies, chosen_none, chosen_some, grows_none, grows_weaker, not_goal, some_is}
use Rattle.fond_policy.proofs.walk.visit.Goals as goal

pub returns-in_default-clause-visits : goal.returns-in_default-clause-visits
returns-in_default-clause-visits c =
    let own = ap (λ (rules : List Rule). selected_rule rules c.args.state.now) (c.heed.ensures ∙ c.requires.of) in
    let none : selected c.args.rules.now c.args.state.now ≡ None = chosen_none c.args.rules.now c.args.state.now (sym own ∙ sym c.select.ensures ∙ c.in_default.is) in
    record {
      grows = grows_none _ c.args.states.now;
      closed = λ open_ act after chosen next. absurd (none-some act (sym none ∙ chosen));
      answer = (not_goal _ (sym c.is_goal.ensures ∙ c.if-is_goal.false), none);
    }

pub add_successors-requires-clause-there : goal.add_successors-requires-clause-there
add_successors-requires-clause-there c = act_there c.args.t.now c.args.rules.now c.in-Some.rule c.get.result.now c.requires.belong.there c.get.ensures

pub add_successors-requires-clause-applicable : goal.add_successors-requires-clause-applicable
add_successors-requires-clause-applicable c = λ act at.
    let own = ap (λ (rules : List Rule). selected_rule rules c.args.state.now) (c.heed.ensures ∙ c.requires.of) in
    applies c.args.t.now c.args.pairs.now c.args.rules.now c.args.state.now c.in-Some.rule c.get.result.now (sym own ∙ sym c.select.ensures ∙ c.in-Some.is) c.get.ensures (c.requires.sure c.in-Some.rule c.get.result.now c.get.ensures) act at

pub returns-clause-visits : goal.returns-clause-visits
returns-clause-visits c =
    let task = c.args.t.now in
    let rules = c.args.rules.now in
    let state = c.args.state.now in
    let own = ap (λ (rules : List Rule). selected_rule rules state) (c.heed.ensures ∙ c.requires.of) in
    let chosen : selected rules state ≡ Some c.get.result.now.act = chosen_some rules state c.in-Some.rule c.get.result.now (sym own ∙ sym c.select.ensures ∙ c.in-Some.is) c.get.ensures in
    let open_ = not_goal _ (sym c.is_goal.ensures ∙ c.if-is_goal.false) in
    record {
      grows = grows_weaker (IsNext task state c.get.result.now.act) _ c.args.states.now c.add_successors.new.states
          (λ after next. (open_, (c.get.result.now.act, chosen, next))) c.in_ok-add_successors.ensures.grows;
      closed = λ one act after also next.
          c.in_ok-add_successors.ensures.all after (subst (λ (n : ℕ). IsNext task state n after) (same_Some act c.get.result.now.act (sym also ∙ chosen)) next);
      answer = λ one. some_is c.get.result.now.act chosen;
    }

pub returns-then-is_goal-clause-visits : goal.returns-then-is_goal-clause-visits
returns-then-is_goal-clause-visits c =
    let goal_here = sym c.is_goal.ensures ∙ c.if-is_goal.true in
    record {
      grows = grows_none _ c.args.states.now;
      closed = λ open_. absurd (open_ goal_here);
      answer = λ open_. absurd (open_ goal_here);
    }
