-- Objects of which some are known.
use Rattle.std.specs.Prelude.{◌≡◌, ℕ, Bool, true, false, List, [], ◌∷◌, Option, Some, None, slice_index_or}
use Rattle.std.specs.FinSet as set
use Rattle.fond_ast.specs.Ranges.{is_among}
use Rattle.fond_ast.specs.declared.form.LAtom.{LAtom}
use Rattle.fond_ast.specs.declared.form.LCond.{LCond}
use Rattle.fond_ast.specs.declared.task.LiftedTask.{LiftedTask}
use Rattle.fond_ast.specs.Conditions.{ground_atom}
use Rattle.fond_ast.specs.Solutions.{initial}
use Rattle.fond_join.specs.Kept.{is_no, open_value}
use Rattle.fond_join.specs.Values.{condition_value}

-- an object is another, or it is unknown and not all objects are known
abbrev pub TellsObject : Bool → Option ℕ → ℕ → Type 0
TellsObject full None object = full ≡ false
TellsObject full (Some known) object = known ≡ object

-- the objects that are known are those of a list, place by place
abbrev pub Agree : Bool → List (Option ℕ) → List ℕ → Type 0
Agree full [] [] = Unit {0}
Agree full [] (object ∷ objects) = ⊥
Agree full (known ∷ env) [] = ⊥
Agree full (known ∷ env) (object ∷ objects) = TellsObject full known object × Agree full env objects

-- a list has the object of a parameter for each way to complete the known objects by which an atom is initial
abbrev pub CoversAtom : LiftedTask → LAtom → List (Option ℕ) → ℕ → List ℕ → Type 0
CoversAtom task atom env parameter row =
    (objects : List ℕ) → Agree false env objects → set.contains (initial task) (ground_atom objects atom) ≡ true → is_among row (slice_index_or objects parameter 0) ≡ true

-- a list has the object of a parameter for each way to complete the known objects by which a condition is not surely false
abbrev pub Covers : LiftedTask → LCond → List (Option ℕ) → ℕ → List ℕ → Type 0
Covers task condition env parameter row =
    (objects : List ℕ) → Agree false env objects → is_no (condition_value (open_value task) objects condition) ≡ false → is_among row (slice_index_or objects parameter 0) ≡ true
