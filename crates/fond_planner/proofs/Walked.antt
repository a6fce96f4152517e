-- What is reachable through reachable states.
use Rattle.std.proofs.Common.{◌≡◌, ℕ, List, [], ◌∷◌, Bool, length, sym, ◌∙◌, subst, ⊎_elim}
use Rattle.std.specs.Prelude.{Contains}
use Rattle.fond_state.specs.Games.{start, onward}
use Rattle.fond_task.specs.declared.task.Task.{Task}
use Rattle.fond_explicit.proofs.Distinct.{nothing_in}
use Rattle.fond_task.proofs.Lists.{Contains-cases, Contains_numbered}
use Rattle.fond_explicit.specs.Answers.{IsPast as IsPastFrom, IsReachable}
use Rattle.fond_planner.specs.Decisions.{IsPast}
use Rattle.fond_policy.proofs.Walking.{added_grows, grown_cases}
use Rattle.fond_store.specs.Stores.{Adds}
use Rattle.fond_draft.specs.Turns.{AreReachable}
use Rattle.fond_planner.specs.Walks.{IsStep, IsTrail}
use Rattle.fond_planner.specs.declared.sketched.Trail.{Trail}
use Rattle.fond_planner.specs.declared.walk.Step.{Step}
use Rattle.fond_draft.proofs.Ready.{reachable_long}

-- what is reachable from a reachable state is reachable
reach_through : (task : Task) (from : List Bool) → IsReachable task task.init from → (state : List Bool) → IsReachable task from state → IsReachable task task.init state
reach_through task from here state start = here
reach_through task from here state (onward before act after reached open_ may next) = onward before act after (reach_through task from here before reached) open_ may next

-- if more states than a number are reachable from a reachable state, more are reachable
pub past_through : (task : Task) (from : List Bool) (bound : ℕ) → IsReachable task task.init from → IsPastFrom task from bound → IsPast task bound
past_through task from bound here past = record {
  states = past.states;
  once = past.once;
  reached = λ state has. reach_through task from here state (past.reached state has);
  longer = past.longer;
}

module _ (task : Task) (step : Step) (is_step : IsStep task step) where
  -- the next state of a step is reachable
  pub next_reachable : IsReachable task task.init step.next
  next_reachable =
      let outset = is_step.outset in
      onward step.state step.act step.next outset.reachable outset.open_ tt
      (record { act = outset.act; numbered = outset.has_act; holds = outset.applicable; outcome = is_step.entries; one = Contains_numbered outset.act.outcomes step.outcome is_step.entries is_step.has_outcome; given = is_step.led })

  -- the states of a step have a truth value for each atom
  pub state_long : length step.state ≡ length task.atoms
  state_long = reachable_long task task.init task.init_long step.state is_step.outset.reachable

-- reachable states to which a reachable one is added
pub reachable_more : (task : Task) (old new : List (List Bool)) (state copy : List Bool) (number : ℕ) → copy ≡ state → Adds old copy number new → IsReachable task task.init state → AreReachable task old → AreReachable task new
reachable_more task old new state copy number same adds here all other has =
    let Is : List Bool → Type 0 = IsReachable task task.init in
    ⊎_elim (λ was. all other was) (λ is. is) (grown_cases Is old new (added_grows Is old new state copy number same adds here) other has)

-- the only state of a list of the initial state is reachable
pub first_reachable : (task : Task) (states : List (List Bool)) → states ≡ task.init ∷ [] → AreReachable task states
first_reachable task states is = λ state has.
    ⊎_elim
    (λ (here : task.init ≡ state). subst (IsReachable task task.init) here start)
    (λ later. absurd (nothing_in state later))
    (Contains-cases state task.init [] (subst (λ (all : List (List Bool)). Contains all state) is has))

-- a trail whose step has another reachable state, and another next state over the atoms, is one of the task
pub still_trail : (task : Task) (before after : Trail) → IsTrail task before → after.states ≡ before.states → IsReachable task task.init after.step.state → length after.step.next ≡ length before.step.next → IsTrail task after
still_trail task before after trail same here long = record {
  reachable = subst (AreReachable task) (sym same) trail.reachable;
  state_long = reachable_long task task.init task.init_long after.step.state here;
  next_long = long ∙ trail.next_long;
}
