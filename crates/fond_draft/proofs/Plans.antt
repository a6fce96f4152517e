-- The choices of a plan, and their states.
use Rattle.std.proofs.Common.{inl, inr, ◌≡◌, ℕ, List, Bool, Some, length, slice_get, sym, ap, ◌∙◌, subst, arith}
use Rattle.std.specs.Prelude.{Contains, option_map}
use Rattle.std.proofs.lemmas.List.{length-map}
use Rattle.std.proofs.lemmas.Option.{same_Some, slice_get-map, slice_get_within}
use Rattle.fond_text.specs.Lists.{AreDistinct}
use Rattle.fond_task.specs.declared.task.Task.{Task}
use Rattle.fond_task.proofs.Lists.{Contains_numbered, number_of}
use Rattle.fond_task.specs.Policies.{IsApplicable, IsGoal}
use Rattle.fond_explicit.proofs.Distinct.{one_number}
use Rattle.fond_explicit.specs.Answers.{ChoiceView, IsHeld}
use Rattle.fond_draft.specs.Plans.{IsPlan}
use Rattle.fond_draft.specs.declared.plan.Plan.{Plan}
use Rattle.fond_draft.proofs.Lists.{element_at}
use Rattle.fond_draft.proofs.Ready.{reachable_long}

module _ (task : Task) (plan : Plan) (is_plan : IsPlan task plan) where
  -- there are as many states as choices
  pub plan_long : length plan.states ≡ length plan.choices
  plan_long = ap length is_plan.numbered ∙ length-map plan.choices (λ choice. choice.state)

  -- a choice has its state under its number
  pub state_of_choice : (number : ℕ) (choice : ChoiceView) → slice_get plan.choices number ≡ Some choice → slice_get plan.states number ≡ Some choice.state
  state_of_choice number choice at = ap (λ (states : List (List Bool)). slice_get states number) is_plan.numbered ∙ slice_get-map (λ (c : ChoiceView). c.state) plan.choices number ∙ ap (option_map (λ (c : ChoiceView). c.state)) at

  -- a state of a choice is one of the plan
  pub listed : (choice : ChoiceView) → Contains plan.choices choice → Contains plan.states choice.state
  listed choice one = let at = number_of plan.choices choice one in Contains_numbered plan.states at.0 choice.state (state_of_choice at.0 choice at.1)

  -- a state of a plan has a choice under its number
  pub choice_of_state : (number : ℕ) (state : List Bool) → slice_get plan.states number ≡ Some state → (choice : ChoiceView) × (slice_get plan.choices number ≡ Some choice) × (choice.state ≡ state)
  choice_of_state number state at =
      let within = slice_get_within plan.states number state at in
      let one = element_at plan.choices number (omega (arith, within, plan_long)) in
      (one.0, one.1, same_Some one.0.state state (sym (state_of_choice number one.0 one.1) ∙ at))

  -- no state of a plan has two numbers
  pub one_choice : (number other : ℕ) (choice : ChoiceView) → slice_get plan.states number ≡ Some choice.state → slice_get plan.choices other ≡ Some choice → number ≡ other
  one_choice number other choice at is = one_number plan.states (subst AreDistinct (sym is_plan.numbered) is_plan.winning.once) number other choice.state at (state_of_choice other choice is)

  -- the states of choices have a truth value for each atom
  pub choice_long : (choice : ChoiceView) → Contains plan.choices choice → length choice.state ≡ length task.atoms
  choice_long choice one = reachable_long task is_plan.from is_plan.long choice.state (is_plan.winning.each choice one).reachable

  -- the action of a choice is applicable in its state
  pub choice_applies : (number : ℕ) (choice : ChoiceView) → slice_get plan.choices number ≡ Some choice → IsApplicable task choice.state choice.act
  choice_applies number choice at = (is_plan.winning.each choice (Contains_numbered plan.choices number choice at)).applicable

-- a state from which choices win and that is no goal is the state of one of them
pub start_listed : (task : Task) (plan : Plan) → IsPlan task plan → (state : List Bool) → IsHeld task plan.choices state → ¬ IsGoal task state → Contains plan.states state
start_listed task plan is_plan state (inl goal) open_ = absurd (open_ goal)
start_listed task plan is_plan state (inr has) open_ = subst (λ (s : List Bool). Contains plan.states s) has.here (listed task plan is_plan has.choice has.one)
