-- The value that a condition has by its form, whatever the objects of the variables around it are.
use Rattle.std.specs.Prelude.{◌≡◌, ℕ, Bool, true, false, List, [], ◌∷◌, slice_index_or, if◌then◌else◌}
use Rattle.std.specs.List.{list_all}
use Rattle.fond_text.specs.declared.atom.Atom.{Atom}
use Rattle.fond_ast.specs.Ranges.{objects_of}
use Rattle.fond_ast.specs.declared.form.LCond.{LCond}
use Rattle.fond_ast.specs.declared.form.LCond.TheOpen.{LCond-F, Truth, Holds, Equal, And, Or, Not, Imply, Forall, Exists}
use Rattle.fond_ast.specs.declared.form.LCond.TheFolds.{fold-LCond}
use Rattle.fond_task.specs.Junctions.{joined_all, neutral}
use Rattle.fond_task.specs.Values.{greater, opposite}
use Rattle.fond_task.specs.declared.form.Junction.{Junction}
use Rattle.fond_task.specs.declared.form.Junction.TheVariants.{All, Any}
use Rattle.fond_task.specs.declared.form.Kleene.{Kleene}
use Rattle.fond_task.specs.declared.form.Kleene.TheVariants.{No, Unknown, Yes}

-- whether a range has an object
abbrev pub is_filled : List ℕ → Bool
is_filled [] = false
is_filled (object ∷ range) = true

-- whether each range has an object
abbrev pub are_filled : List (List ℕ) → Bool
are_filled = list_all is_filled

-- the value of a quantifier over these ranges, if that of its part is the same for all objects
abbrev pub over : List (List ℕ) → Junction → Kleene → Kleene
over ranges junction value = if are_filled ranges then value else neutral junction

abbrev pub fixed_step : List Bool → LCond-F Kleene → Kleene
fixed_step bare Truth = Yes
fixed_step bare (Holds atom) = if slice_index_or bare atom.predicate false then No else Unknown
fixed_step bare (Equal term other) = Unknown
fixed_step bare (And parts) = joined_all All parts.items
fixed_step bare (Or parts) = joined_all Any parts.items
fixed_step bare (Not part) = opposite part.value
fixed_step bare (Imply part other) = greater (opposite part.value) other.value
fixed_step bare (Forall ranges part) = over (objects_of ranges) All part.value
fixed_step bare (Exists ranges part) = over (objects_of ranges) Any part.value

-- the value of a condition if no atom of these predicates is true, and Unknown if it depends on other atoms or on objects
abbrev pub fixed_value : List Bool → LCond → Kleene
fixed_value bare condition = fold-LCond Kleene (fixed_step bare) condition

-- of these predicates no atom is true
abbrev pub AreBare : (Atom → Kleene) → List Bool → Type 0
AreBare known bare = (predicate : ℕ) (objects : List ℕ) → slice_index_or bare predicate false ≡ true → known (record { predicate = predicate; objects = objects }) ≡ No
