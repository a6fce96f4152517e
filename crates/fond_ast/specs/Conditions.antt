-- Which conditions hold in a state, where the variables around them have objects.
use Rattle.std.specs.Prelude.{◌≡◌, ◌⊎◌, ⊤, ℕ, List, [], ◌∷◌, ◌++◌, map, slice_index_or, Contains, IsTrue}
use Rattle.std.specs.List.{flat_map}
use Rattle.std.specs.FinSet as set
use Rattle.fond_text.specs.declared.atom.Atom.{Atom}
use Rattle.fond_ast.specs.Ranges.{RangeList, objects_of}
use Rattle.fond_ast.specs.declared.form.LAtom.{LAtom}
use Rattle.fond_ast.specs.declared.form.LTerm.{LTerm}
use Rattle.fond_ast.specs.declared.form.LTerm.TheVariants.{Object, Variable}
use Rattle.fond_ast.specs.declared.form.LCond.{LCond, Truth, Holds as HoldsAtom, Equal, And', Or', Not', Imply', Forall', Exists', Row_of-LCond, end_of-LCond, more_of-LCond}
use Rattle.fond_ast.specs.States.{State}

-- the object of a term: an object is its own, and a variable has the one at its number; 0 stands for a missing one, which
-- no variable of a task has
abbrev pub object_of : List ℕ → LTerm → ℕ
object_of env (Object number) = number
object_of env (Variable number) = slice_index_or env number 0

-- the ground atom of an atom
abbrev pub ground_atom : List ℕ → LAtom → Atom
ground_atom env atom = record { predicate = atom.predicate; objects = map (object_of env) atom.terms }

-- the lists of one object of each range, in order, the first object varying slowest
abbrev pub tuples : List (List ℕ) → List (List ℕ)
tuples [] = [] ∷ []
tuples (range ∷ ranges) = flat_map (λ object. map (λ objects. object ∷ objects) (tuples ranges)) range

-- a list has one object of each range, in order
abbrev pub IsTuple : RangeList → List ℕ → Type 0
IsTuple ranges objects = Contains (tuples (objects_of ranges)) objects

-- a condition holds in a state, where these are the objects of the variables around it, the outermost first: an atom if it
-- is in the state, an equality if its terms have the same object, a conjunction if each part holds, a disjunction if some
-- part holds, a negation if its part does not hold, an implication if its second part holds wherever its first does, and a
-- quantified condition if its part holds for each list, or for some list, of objects of its ranges
abbrev mutual
  pub Holds : State → List ℕ → LCond → Type 0
  Holds state env Truth = ⊤
  Holds state env (HoldsAtom atom) = IsTrue (set.contains state (ground_atom env atom))
  Holds state env (Equal term other) = object_of env term ≡ object_of env other
  Holds state env (And' shape parts) = HoldsEach state env parts
  Holds state env (Or' shape parts) = HoldsSome state env parts
  Holds state env (Not' shape part) = ¬ Holds state env part
  Holds state env (Imply' shape part shape_of_other other) = Holds state env part → Holds state env other
  Holds state env (Forall' ranges shape part) = (objects : List ℕ) → IsTuple ranges objects → Holds state (env ++ objects) part
  Holds state env (Exists' ranges shape part) = (objects : List ℕ) × IsTuple ranges objects × Holds state (env ++ objects) part

  pub HoldsEach : {m : _} → State → List ℕ → Row_of-LCond m → Type 0
  HoldsEach state env end_of-LCond = ⊤
  HoldsEach state env (more_of-LCond part rest) = Holds state env part × HoldsEach state env rest

  pub HoldsSome : {m : _} → State → List ℕ → Row_of-LCond m → Type 0
  HoldsSome state env end_of-LCond = ⊥
  HoldsSome state env (more_of-LCond part rest) = Holds state env part ⊎ HoldsSome state env rest
