use Rattle.std.proofs.Common.{◌≡◌, ◌<◌, true, ◌∙◌, length, ap, sym, subst}
use Rattle.std.specs.List.{list_all}
use Rattle.fond_task.specs.Within.{is_entry_within}
use Rattle.fond_oneof.specs.Outcomes.{AreOutcomesOf, outcome_lists}
use Rattle.fond_oneof.proofs.Ended.{as_many, entries_within, outcomes_of, outcomes_some}
use Rattle.fond_oneof.proofs.outcome.outcomes.Goals as goal

pub returns-clause-listed : goal.returns-clause-listed
returns-clause-listed c = subst (AreOutcomesOf (outcome_lists c.args.effect.now)) (sym c.of.ensures) (outcomes_of (outcome_lists c.args.effect.now) c.in_ok-list.field-0.items c.in_ok-list.ensures)

pub returns-clause-some : goal.returns-clause-some
returns-clause-some c some =
    let many = ap length c.of.ensures ∙ as_many (outcome_lists c.args.effect.now) c.in_ok-list.field-0.items c.in_ok-list.ensures in
    subst (λ n. 0 < n) (sym many) (outcomes_some c.args.effect.now some)

pub returns-clause-within : goal.returns-clause-within
returns-clause-within c atoms over =
    subst (λ all. list_all (list_all (is_entry_within atoms)) all ≡ true) (sym c.of.ensures) (entries_within atoms c.args.effect.now c.in_ok-list.field-0.items over c.in_ok-list.ensures)
