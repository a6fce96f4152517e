-- States of a plan that are provided for.
use Rattle.std.proofs.Common.{inl, inr, ◌≡◌, ℕ, ◌≤◌, List, Bool, Some, slice_get, sym, ap, ◌∙◌, subst, ⊎_elim, arith}
use Rattle.std.specs.Prelude.{Contains}
use Rattle.std.proofs.lemmas.Option.{same_Some}
use Rattle.fond_task.specs.declared.task.Task.{Task}
use Rattle.fond_task.proofs.Lists.{number_of}
use Rattle.fond_task.specs.declared.rule.Rule.{Rule}
use Rattle.fond_policy.proofs.Walking.{grown_has}
use Rattle.fond_policy.specs.Walks.{Grows}
use Rattle.fond_explicit.specs.Answers.{ChoiceView, HasSmaller}
use Rattle.fond_draft.specs.Plans.{IsPlan, IsProvided}
use Rattle.fond_draft.specs.declared.plan.Plan.{Plan}
use Rattle.fond_draft.proofs.Plans.{listed, one_choice}

-- what is provided for among states still is among more
pub provided_more : (task : Task) (rules : List Rule) (choices : List ChoiceView) (Is : List Bool → Type 0) (old new : List (List Bool)) (rank : ℕ) (state : List Bool)
    → Grows Is old new → IsProvided task rules choices old rank state → IsProvided task rules choices new rank state
provided_more task rules choices Is old new rank state grown provided near = ⊎_elim (λ covered. inl covered) (λ has. inr (grown_has Is old new grown state has)) (provided near)

module _ (task : Task) (plan : Plan) (is_plan : IsPlan task plan) (state : List Bool) where
  -- a state that is none of the plan has no choice
  pub no_choice : (rank : ℕ) → ¬ Contains plan.states state → ¬ HasSmaller plan.choices rank state
  no_choice rank missing near = missing (subst (λ (s : List Bool). Contains plan.states s) near.here (listed task plan is_plan near.choice near.one))

  -- a state whose choice has no smaller rank has no choice of a smaller rank
  pub no_smaller : (rank number : ℕ) (choice : ChoiceView) → slice_get plan.states number ≡ Some state → slice_get plan.choices number ≡ Some choice → rank ≤ choice.rank → ¬ HasSmaller plan.choices rank state
  no_smaller rank number choice at numbered large near =
      let own = number_of plan.choices near.choice near.one in
      let same_number : number ≡ own.0 = one_choice task plan is_plan number own.0 near.choice (at ∙ ap (λ s. Some s) (sym near.here)) own.1 in
      let same : choice ≡ near.choice = same_Some choice near.choice (sym numbered ∙ ap (slice_get plan.choices) same_number ∙ own.1) in
      let ranks : choice.rank ≡ near.choice.rank = ap (λ (c : ChoiceView). c.rank) same in
      omega (arith, large, near.smaller, ranks)
