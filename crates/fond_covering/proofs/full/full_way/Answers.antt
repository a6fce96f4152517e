use Rattle.std.proofs.Common.{◌≡◌, ◌∙◌, None, sym, subst}
use Rattle.std.specs.Prelude.{IsSome}
use Rattle.std.proofs.lemmas.Bool.{false≢true}
use Rattle.fond_task.specs.Policies.{selected}
use Rattle.fond_policy.proofs.Walking.{act_there, applies, chosen_none, chosen_some, not_goal}
use Rattle.fond_covering.proofs.full.full_way.Goals as goal

pub unreachable-requires : goal.unreachable-requires
unreachable-requires c =
    let none : selected c.args.rules.now c.args.state.now ≡ None = chosen_none c.args.rules.now c.args.state.now (sym c.select.ensures ∙ c.in_default.is) in
    false≢true (subst IsSome none (c.requires.ruled (not_goal _ (sym c.is_goal.ensures ∙ c.if-is_goal.false))))

pub next_numbers-requires-clause-there : goal.next_numbers-requires-clause-there
next_numbers-requires-clause-there c = act_there c.args.t.now c.args.rules.now c.in-Some.rule c.get.result.now c.requires.belong.there c.get.ensures

pub next_numbers-requires-clause-applicable : goal.next_numbers-requires-clause-applicable
next_numbers-requires-clause-applicable c = λ act at.
    applies c.args.t.now c.args.pairs.now c.args.rules.now c.args.state.now c.in-Some.rule c.get.result.now (sym c.select.ensures ∙ c.in-Some.is) c.get.ensures (c.requires.sure c.in-Some.rule c.get.result.now c.get.ensures) act at

pub next_numbers-requires-clause-all : goal.next_numbers-requires-clause-all
next_numbers-requires-clause-all c = λ after next.
    c.requires.closed (not_goal _ (sym c.is_goal.ensures ∙ c.if-is_goal.false)) c.get.result.now.act after
    (chosen_some c.args.rules.now c.args.state.now c.in-Some.rule c.get.result.now (sym c.select.ensures ∙ c.in-Some.is) c.get.ensures) next

pub returns-clause-way : goal.returns-clause-way
returns-clause-way c =
    let own = c.get.result.now in
    let sure = c.requires.sure c.in-Some.rule own c.get.ensures in
    record {
      chosen = sym c.select.ensures ∙ c.in-Some.is;
      own = own;
      numbered = c.get.ensures;
      act = sure.act;
      has_act = sure.has_act;
      next = c.in_ok-items.ensures.numbers sure.act sure.has_act;
    }
