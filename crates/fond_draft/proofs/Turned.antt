-- What follows from a state being on the way of a plan.
use Rattle.std.proofs.Common.{◌≡◌, ℕ, ◌<◌, ◌≤◌, List, [], ◌∷◌, ◌++◌, Bool, true, Some, length, slice_get, sym, ◌∙◌, subst, ⊎_elim, arith}
use Rattle.std.specs.Prelude.{Contains}
use Rattle.std.proofs.lemmas.List.Elements.{Contains-append_left, Contains-append_right, Contains-push_cases}
use Rattle.std.proofs.lemmas.Option.{same_Some, slice_get_within}
use Rattle.fond_state.specs.Games.{onward}
use Rattle.fond_task.specs.Steps.{next_state}
use Rattle.fond_task.specs.Truth.{is_true}
use Rattle.fond_task.specs.declared.task.Act.{Act}
use Rattle.fond_task.specs.declared.task.Entry.{Entry}
use Rattle.fond_task.specs.declared.task.Task.{Task}
use Rattle.fond_task.proofs.Lists.{Contains-here, Contains_numbered, number_of}
use Rattle.fond_task.specs.Policies.{IsApplicable}
use Rattle.fond_explicit.specs.Answers.{ChoiceView, IsReachable}
use Rattle.fond_draft.specs.Turns.{AreReachable, IsTurn, LeadsFrom}
use Rattle.fond_draft.proofs.Ready.{reachable_long}
use Rattle.fond_task.specs.declared.plan_step.PlanStep.{PlanStep}

-- a reachable state has a truth value for each atom
pub reached_long : (task : Task) (state : List Bool) → IsReachable task task.init state → length state ≡ length task.atoms
reached_long task state here = reachable_long task task.init task.init_long state here

module _ (task : Task) (turn : ChoiceView) (is : IsTurn task turn) where
  -- a state on the way has a truth value for each atom
  pub turn_long : length turn.state ≡ length task.atoms
  turn_long = reached_long task turn.state is.reachable

  -- the task has its action
  pub turn_there : turn.act < length task.acts
  turn_there = slice_get_within task.acts turn.act is.act is.has_act

  -- the action is applicable
  pub turn_holds : (act : Act) → slice_get task.acts turn.act ≡ Some act → is_true turn.state act.pre ≡ true
  turn_holds act at = subst (λ (a : Act). is_true turn.state a.pre ≡ true) (same_Some is.act act (sym is.has_act ∙ at)) is.applicable

  pub turn_applies : IsApplicable task turn.state turn.act
  turn_applies = record { act = is.act; numbered = is.has_act; holds = is.applicable }

  -- the next states are reachable
  pub turn_next : (outcome : ℕ) (next : List Bool) → ((act : Act) → slice_get task.acts turn.act ≡ Some act → (entries : List Entry) × (slice_get act.outcomes outcome ≡ Some entries) × (next ≡ next_state turn.state entries)) → IsReachable task task.init next
  turn_next outcome next leads =
      let led = leads is.act is.has_act in
      onward turn.state turn.act next is.reachable is.open_ tt
      (record { act = is.act; numbered = is.has_act; holds = is.applicable; outcome = led.0; one = Contains_numbered is.act.outcomes outcome led.0 led.1; given = led.2 })

-- a reachable state from which a step leads on is on the way
pub turn_of : (task : Task) (state copy : List Bool) (step : PlanStep) (rank : ℕ) → IsReachable task task.init state → LeadsFrom task state step → copy ≡ state → IsTurn task (record { state = copy; act = step.act; rank = rank })
turn_of task state copy step rank here leads same = record {
  reachable = subst (IsReachable task task.init) (sym same) here;
  open_ = λ goal. leads.open_ (subst (λ (s : List Bool). is_true s task.goal ≡ true) same goal);
  act = leads.act;
  has_act = leads.has_act;
  applicable = subst (λ (s : List Bool). is_true s leads.act.pre ≡ true) (sym same) leads.applicable;
}

-- reachable states with one more, and with one less
pub more_reached : (task : Task) (states : List (List Bool)) (state : List Bool) → AreReachable task states → IsReachable task task.init state → AreReachable task (states ++ state ∷ [])
more_reached task states state all here other has = ⊎_elim
    (λ was. all other was)
    (λ (same : state ≡ other). subst (IsReachable task task.init) same here)
    (Contains-push_cases states state other has)

pub fewer_reached : (task : Task) (states : List (List Bool)) (state : List Bool) → AreReachable task (states ++ state ∷ []) → AreReachable task states
fewer_reached task states state all other has = all other (Contains-append_left states (state ∷ []) other has)

pub last_reached : (task : Task) (states : List (List Bool)) (state : List Bool) → AreReachable task (states ++ state ∷ []) → IsReachable task task.init state
last_reached task states state all = all state (Contains-append_right states (state ∷ []) state (Contains-here state []))

-- what holds of the elements of a list by their numbers up to the end holds of all
pub of_all : {X : Type 0} (P : X → Type 0) (xs : List X) (end : ℕ) → length xs ≤ end → ((number : ℕ) (x : X) → number < end → slice_get xs number ≡ Some x → P x) → (x : X) → Contains xs x → P x
of_all P xs end past each x has =
    let one = number_of xs x has in
    each one.0 x (omega (arith, slice_get_within xs one.0 x one.1, past)) one.1
