-- The outcomes of an effect, in order, and the states to which they lead.
use Rattle.std.specs.Prelude.{ℕ, ◌&&◌, Bool, true, false, List, [], ◌∷◌, ◌++◌, map, filter, fold, if◌then◌else◌}
use Rattle.std.specs.List.{flat_map, list_all, list_any}
use Rattle.std.specs.FinSet as set
use Rattle.fond_text.specs.Bools.{is_same}
use Rattle.fond_text.specs.Lists.{concatenations}
use Rattle.fond_text.specs.declared.atom.Atom.{Atom}
use Rattle.fond_ast.specs.Ranges.{objects_of}
use Rattle.fond_ast.specs.declared.form.LCond.{LCond}
use Rattle.fond_ast.specs.declared.form.LEffect.{LEffect}
use Rattle.fond_ast.specs.declared.form.LEffect.TheOpen.{LEffect-F, Nothing, Add, Delete, And, Forall, When, OneOf}
use Rattle.fond_ast.specs.declared.form.LEffect.TheFolds.{fold-LEffect}
use Rattle.fond_ast.specs.States.{AtomSet, State, atoms_of}
use Rattle.fond_ast.specs.Conditions.{ground_atom, tuples}
use Rattle.fond_ast.specs.Effects.{Change, after}
use Rattle.fond_ast.specs.Truths.{holds}

-- a condition, with the objects of the variables around it
pub record Guard : Type 0 where
  pub env : List ℕ
  pub condition : LCond

-- a literal of an outcome: its atom and its sign, and the conditions of the `when`s around it
pub record Literal : Type 0 where
  pub guards : List Guard
  pub atom : Atom
  pub add : Bool

-- the one outcome of a literal without conditions
abbrev pub alone : Atom → Bool → List (List Literal)
alone atom add = (record { guards = []; atom = atom; add = add } ∷ []) ∷ []

-- a literal under one more condition
abbrev pub guarded : Guard → Literal → Literal
guarded guard literal = record literal { guards = guard ∷ literal.guards }

abbrev pub outcomes_step : LEffect-F (List ℕ → List (List Literal)) → List ℕ → List (List Literal)
outcomes_step Nothing env = [] ∷ []
outcomes_step (Add atom) env = alone (ground_atom env atom) true
outcomes_step (Delete atom) env = alone (ground_atom env atom) false
outcomes_step (And parts) env = concatenations (map (λ part. part env) parts.items)
outcomes_step (Forall ranges part) env = concatenations (map (λ objects. part.value (env ++ objects)) (tuples (objects_of ranges)))
outcomes_step (When condition part) env = map (map (guarded (record { env = env; condition = condition }))) (part.value env)
outcomes_step (OneOf parts) env = flat_map (λ part. part env) parts.items

-- the outcomes of an effect, in order, where these are the objects of the variables around it: a literal has one, the empty
-- effect the empty one, a conjunction all concatenations of one of each part, the last part varying fastest, a quantified
-- effect those of the conjunction over the lists of objects of its ranges, a conditional effect those of its part under its
-- condition, and a choice those of its members, one after the other
abbrev pub outcomes : List ℕ → LEffect → List (List Literal)
outcomes env effect = fold-LEffect (List ℕ → List (List Literal)) outcomes_step effect env

-- whether a literal takes place in a state: all its conditions hold there
abbrev pub takes_place : State → Literal → Bool
takes_place state literal = list_all (λ guard. holds state guard.env guard.condition) literal.guards

-- the atoms of the literals of this sign that take place in a state
abbrev pub changed_atoms : State → Bool → List Literal → AtomSet
changed_atoms state sign outcome = atoms_of (map (λ literal. literal.atom) (filter (λ literal. is_same literal.add sign && takes_place state literal) outcome))

-- the change that an outcome makes in a state
abbrev pub change_of : State → List Literal → Change
change_of state outcome = record { del = changed_atoms state false outcome; add = changed_atoms state true outcome }

-- the state to which an outcome leads
abbrev pub state_after : State → List Literal → State
state_after state outcome = after state (change_of state outcome)

-- whether two states have the same atoms
abbrev pub is_same_state : State → State → Bool
is_same_state state other = set.is_subset state other && set.is_subset other state

-- the states of a list without repetition, each at its first occurrence
abbrev pub once : List State → List State
once states = fold (λ before state. if list_any (is_same_state state) before then before else before ++ state ∷ []) [] states

-- the states to which the outcomes of an effect lead, without repetition, in the order of the first outcome that does
abbrev pub successors : State → List ℕ → LEffect → List State
successors state env effect = once (map (state_after state) (outcomes env effect))
