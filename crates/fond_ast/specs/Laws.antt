-- The laws of the meaning of tasks.
use Rattle.std.specs.Prelude.{◌≡◌, ◌↔◌, ◌==◌, ◌||◌, ℕ, Bool, false, List, Some, Contains, IsTrue, length, map, slice_get, slice_index_or}
use Rattle.std.specs.List.{list_any}
use Rattle.std.specs.FinSet as set
use Rattle.fond_text.specs.Lists.{AreDistinct, each_passes}
use Rattle.fond_text.specs.declared.atom.Atom.{Atom}
use Rattle.fond_text.specs.declared.atom.GroundAction.{GroundAction}
use Rattle.fond_ast.specs.Ranges.{is_among}
use Rattle.fond_ast.specs.declared.form.LCond.{LCond}
use Rattle.fond_ast.specs.declared.form.LCond.TheOpen.{LCond-F, Truth, Holds as HoldsAtom, Equal, And, Or, Not, Imply, Forall, Exists}
use Rattle.fond_ast.specs.declared.form.LCond.TheFolds.{fold-LCond}
use Rattle.fond_ast.specs.declared.form.LEffect.{LEffect}
use Rattle.fond_ast.specs.declared.task.LSchema.{LSchema}
use Rattle.fond_ast.specs.declared.task.LiftedTask.{LiftedTask}
use Rattle.fond_ast.specs.States.{State}
use Rattle.fond_ast.specs.Conditions.{tuples, Holds}
use Rattle.fond_ast.specs.Truths.{holds}
use Rattle.fond_ast.specs.Outcomes.{outcomes, state_after, successors}
use Rattle.fond_ast.specs.Patterns.{is_variable}
use Rattle.fond_ast.specs.Solutions.{IsApplicable, IsNext}

abbrev pub has_variable_step : ℕ → LCond-F Bool → Bool
has_variable_step number Truth = false
has_variable_step number (HoldsAtom atom) = list_any (is_variable number) atom.terms
has_variable_step number (Equal term other) = is_variable number term || is_variable number other
has_variable_step number (And parts) = list_any (λ part. part) parts.items
has_variable_step number (Or parts) = list_any (λ part. part) parts.items
has_variable_step number (Not part) = part.value
has_variable_step number (Imply part other) = part.value || other.value
has_variable_step number (Forall ranges part) = part.value
has_variable_step number (Exists ranges part) = part.value

-- whether a variable of this number occurs in a condition, be it bound inside or not
abbrev pub has_variable : ℕ → LCond → Bool
has_variable number = fold-LCond Bool (has_variable_step number)

abbrev pub has_predicate_step : ℕ → LCond-F Bool → Bool
has_predicate_step number Truth = false
has_predicate_step number (HoldsAtom atom) = atom.predicate == number
has_predicate_step number (Equal term other) = false
has_predicate_step number (And parts) = list_any (λ part. part) parts.items
has_predicate_step number (Or parts) = list_any (λ part. part) parts.items
has_predicate_step number (Not part) = part.value
has_predicate_step number (Imply part other) = part.value || other.value
has_predicate_step number (Forall ranges part) = part.value
has_predicate_step number (Exists ranges part) = part.value

-- whether a predicate occurs in a condition
abbrev pub has_predicate : ℕ → LCond → Bool
has_predicate number = fold-LCond Bool (has_predicate_step number)

-- two lists of objects agree on the variables of a condition: they are equally long, and equal at each of them
abbrev pub AgreeOnVariables : LCond → List ℕ → List ℕ → Type 0
AgreeOnVariables condition env other = (length env ≡ length other) × ((number : ℕ) → IsTrue (has_variable number condition) → slice_index_or env number 0 ≡ slice_index_or other number 0)

-- two states agree on the predicates of a condition: they have the same atoms of each of them
abbrev pub AgreeOnPredicates : LCond → State → State → Type 0
AgreeOnPredicates condition state other = (atom : Atom) → IsTrue (has_predicate atom.predicate condition) → set.contains state atom ≡ set.contains other atom

-- the truth of a condition depends only on the objects of the variables that occur in it and on the atoms of the predicates
-- that occur in it
abbrev pub TruthIsLocal : Type 0
TruthIsLocal = (condition : LCond) (state other : State) (env around : List ℕ) → AgreeOnPredicates condition state other → AgreeOnVariables condition env around → Holds state env condition ↔ Holds other around condition

-- states with the same atoms are equal
abbrev pub StatesAreTheirAtoms : Type 0
StatesAreTheirAtoms = (state other : State) → ((atom : Atom) → set.contains state atom ≡ set.contains other atom) → state ≡ other

-- the lists of one object of each range are those whose objects lie in the ranges, place by place
abbrev pub TuplesLieInRanges : Type 0
TuplesLieInRanges = (ranges : List (List ℕ)) (objects : List ℕ) → Contains (tuples ranges) objects ↔ IsTrue (each_passes (map is_among ranges) objects)

-- a condition holds if and only if the test says so
abbrev pub TruthIsTested : Type 0
TruthIsTested = (state : State) (env : List ℕ) (condition : LCond) → Holds state env condition ↔ IsTrue (holds state env condition)

-- if an action is applicable in a state, the states to which the outcomes of its effect lead are those that may come next
abbrev pub OutcomesComeNext : Type 0
OutcomesComeNext = (task : LiftedTask) (state : State) (action : GroundAction) (schema : LSchema) → slice_get task.schemas action.schema ≡ Some schema → IsApplicable task state action → (next : State) → IsNext task state action next ↔ Contains (map (state_after state) (outcomes action.objects schema.effect)) next

-- the successors of a state are the states to which the outcomes of an effect lead, and none occurs twice
abbrev pub SuccessorsAreOutcomes : Type 0
SuccessorsAreOutcomes = (state : State) (env : List ℕ) (effect : LEffect) → AreDistinct (successors state env effect) × ((next : State) → Contains (successors state env effect) next ↔ Contains (map (state_after state) (outcomes env effect)) next)
