-- States that are reached in one task are reached in one that is the same, and the same are goals.
use Rattle.std.proofs.Common.{◌≡◌, ℕ, List, [], ◌∷◌, Bool, true, false, Option, Some, None, length, map, slice_get, refl, sym, ap, ◌∙◌, subst}
use Rattle.std.specs.Prelude.{if◌then◌else◌}
use Rattle.std.specs.List.{AllZip, list_all}
use Rattle.fond_state.specs.Cubes.{full_cube}
use Rattle.fond_task.proofs.Exact.{exact-image, exact-value}
use Rattle.fond_task.proofs.Found.{outcome_within, pre_within}
use Rattle.fond_task.specs.Steps.{next_state}
use Rattle.fond_task.specs.Truth.{is_true}
use Rattle.fond_task.specs.Within.{is_entry_within, is_form_within}
use Rattle.fond_task.specs.declared.form.Form.{Form}
use Rattle.fond_task.specs.declared.form.Kleene.{Kleene}
use Rattle.fond_task.specs.declared.form.Kleene.TheVariants.{No, Unknown, Yes}
use Rattle.fond_task.specs.declared.task.Act.{Act}
use Rattle.fond_task.specs.declared.task.Entry.{Entry}
use Rattle.fond_task.specs.declared.task.Task.{Task}
use Rattle.fond_task.proofs.Lists.{Contains_numbered, number_of}
use Rattle.fond_task.proofs.Reached.{reached_long}
use Rattle.fond_task.specs.Certificates.{ReachesCount}
use Rattle.fond_task.specs.Policies.{IsGoal, IsNext, Policy, Reach, start, onward}
use Rattle.fond_laws.specs.Alike.{HaveSameValues, IsSameAct, IsSameEntry, IsSameTask}
use Rattle.fond_laws.proofs.SameActs.{AreSameEntries, same_image, sym_task}
use Rattle.fond_laws.proofs.SameLists.{zip-at}

-- whether a value is Yes
abbrev is_yes : Kleene → Bool
is_yes No = false
is_yes Unknown = false
is_yes Yes = true

-- the value of a truth is Yes if it holds
yes_known : (b : Bool) → is_yes (if b then Yes else No) ≡ b
yes_known true = refl
yes_known false = refl

-- forms of the same values have the same truth in a state
same_truth : (state : List Bool) (form twin : Form) → HaveSameValues form twin → is_form_within (length state) form ≡ true → is_form_within (length state) twin ≡ true → is_true state form ≡ is_true state twin
same_truth state form twin same within also =
    sym (yes_known (is_true state form))
    ∙ ap is_yes (sym (exact-value state form within) ∙ same (full_cube state) ∙ exact-value state twin also)
    ∙ yes_known (is_true state twin)

-- the truth value of a literal
abbrev truth_of : Option Bool → Bool
truth_of None = false
truth_of (Some known) = known

-- a state by its full cube
truths_of : (state : List Bool) → map truth_of (full_cube state) ≡ state
truths_of [] = refl
truths_of (known ∷ state) = ap (λ rest. known ∷ rest) (truths_of state)

-- the same outcome leads to the same state
same_next : (state : List Bool) (outcome twin : List Entry) → AreSameEntries outcome twin → list_all (is_entry_within (length state)) outcome ≡ true → list_all (is_entry_within (length state)) twin ≡ true → next_state state outcome ≡ next_state state twin
same_next state outcome twin same within also =
    sym (truths_of (next_state state outcome))
    ∙ ap (map truth_of) (sym (exact-image state outcome within) ∙ same_image (full_cube state) outcome twin same ∙ exact-image state twin also)
    ∙ truths_of (next_state state twin)

module _ (game other : Task) (same : IsSameTask game other) where
  -- a state over all atoms of the one task is over all of the other
  also_long : (state : List Bool) → length state ≡ length game.atoms → length state ≡ length other.atoms
  also_long state long = long ∙ ap length same.atoms

  -- the goals have the same truth in a state over all atoms
  goal_truth : (state : List Bool) → length state ≡ length game.atoms → is_true state game.goal ≡ is_true state other.goal
  goal_truth state long = same_truth state game.goal other.goal same.goal
      (ap (λ n. is_form_within n game.goal) long ∙ game.goal_within)
      (ap (λ n. is_form_within n other.goal) (also_long state long) ∙ other.goal_within)

  -- a goal of the one task is a goal of the other
  same_goal : (state : List Bool) → length state ≡ length game.atoms → IsGoal game state → IsGoal other state
  same_goal state long goal = sym (goal_truth state long) ∙ goal

  -- a goal of the other task is a goal of the one
  goal_same : (state : List Bool) → length state ≡ length game.atoms → IsGoal other state → IsGoal game state
  goal_same state long goal = goal_truth state long ∙ goal

  -- the preconditions of the same actions have the same truth in a state over all atoms
  pre_truth : (state : List Bool) → length state ≡ length game.atoms → (number : ℕ) (act twin : Act) → slice_get game.acts number ≡ Some act → slice_get other.acts number ≡ Some twin → IsSameAct act twin → is_true state act.pre ≡ is_true state twin.pre
  pre_truth state long number act twin at also acts = same_truth state act.pre twin.pre acts.pre
      (ap (λ n. is_form_within n act.pre) long ∙ pre_within (length game.atoms) game.acts number act game.acts_within at)
      (ap (λ n. is_form_within n twin.pre) (also_long state long) ∙ pre_within (length other.atoms) other.acts number twin other.acts_within also)

  -- a state to which an action may lead in the one task is such a state in the other
  next_same : (state : List Bool) → length state ≡ length game.atoms → (number : ℕ) (after : List Bool) → IsNext game state number after → IsNext other state number after
  next_same state long number after next =
      let act = zip-at IsSameAct game.acts other.acts same.acts number next.act next.numbered in
      let at = number_of next.act.outcomes next.outcome next.one in
      let outcome = zip-at (AllZip IsSameEntry) next.act.outcomes act.0.outcomes act.2.outcomes at.0 next.outcome at.1 in
      let within = outcome_within (length game.atoms) game.acts number next.act at.0 next.outcome game.acts_within next.numbered at.1 in
      let also = outcome_within (length other.atoms) other.acts number act.0 at.0 outcome.0 other.acts_within act.1 outcome.1 in
      record {
        act = act.0;
        numbered = act.1;
        holds = sym (pre_truth state long number next.act act.0 next.numbered act.1 act.2) ∙ next.holds;
        outcome = outcome.0;
        one = Contains_numbered act.0.outcomes at.0 outcome.0 outcome.1;
        given = next.given ∙ same_next state next.outcome outcome.0 outcome.2
            (ap (λ n. list_all (is_entry_within n) next.outcome) long ∙ within)
            (ap (λ n. list_all (is_entry_within n) outcome.0) (also_long state long) ∙ also);
      }

  -- a state that a policy reaches in the one task is reached in the other
  pub same_reach : (policy : Policy) (state : List Bool) → Reach game policy state → Reach other policy state
  same_reach policy state start = subst (λ (s : List Bool). Reach other policy s) (sym same.init) start
  same_reach policy state (onward before number after reached open_ chosen next) =
      let long = reached_long game policy before reached in
      onward before number after (same_reach policy before reached) (λ goal. open_ (goal_same before long goal)) chosen (next_same before long number after next)

  -- a reached state that is a goal of the one task is a goal of the other
  pub same_reached_goal : (policy : Policy) (state : List Bool) → Reach game policy state → IsGoal game state → IsGoal other state
  same_reached_goal policy state reached goal = same_goal state (reached_long game policy state reached) goal

-- a policy reaches as many states in the same task
pub same_count : (game other : Task) → IsSameTask game other → (policy : Policy) (count : ℕ) → ReachesCount game policy count → ReachesCount other policy count
same_count game other same policy count counted = record {
  states = counted.states;
  once = counted.once;
  reached = λ state has. same_reach game other same policy state (counted.reached state has);
  all = λ state reached. counted.all state (same_reach other game (sym_task game other same) policy state reached);
  counted = counted.counted;
}
