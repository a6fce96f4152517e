-- The value of a condition while some variables around it have no object.
use Rattle.std.specs.Prelude.{◌==◌, ℕ, List, [], ◌∷◌, ◌++◌, Option, Some, None, map, option_map, slice_index_or, if◌then◌else◌}
use Rattle.fond_ast.specs.Ranges.{objects_of}
use Rattle.fond_ast.specs.Within.{is_fluent}
use Rattle.fond_ast.specs.declared.form.LAtom.{LAtom}
use Rattle.fond_ast.specs.declared.form.LTerm.{LTerm}
use Rattle.fond_ast.specs.declared.form.LTerm.TheVariants.{Object, Variable}
use Rattle.fond_ast.specs.declared.form.LCond.{LCond}
use Rattle.fond_ast.specs.declared.form.LCond.TheOpen.{LCond-F, Truth, Holds, Equal, And, Or, Not, Imply, Forall, Exists}
use Rattle.fond_ast.specs.declared.form.LCond.TheFolds.{fold-LCond}
use Rattle.fond_ast.specs.declared.task.LiftedTask.{LiftedTask}
use Rattle.fond_ast.specs.Conditions.{tuples}
use Rattle.fond_task.specs.declared.form.Junction.TheVariants.{All, Any}
use Rattle.fond_task.specs.declared.form.Kleene.{Kleene}
use Rattle.fond_task.specs.declared.form.Kleene.TheVariants.{No, Unknown, Yes}
use Rattle.fond_task.specs.Junctions.{joined_all}
use Rattle.fond_task.specs.Values.{greater, opposite}
use Rattle.fond_join.specs.Kept.{static_value}

-- the object of a term if it is known: an object is its own, and a variable has the one at its number; 0 stands for a
-- missing one
abbrev pub known_object : List (Option ℕ) → LTerm → Option ℕ
known_object env (Object number) = Some number
known_object env (Variable number) = slice_index_or env number (Some 0)

-- some objects, if each of them is known
abbrev pub all_known : List (Option ℕ) → Option (List ℕ)
all_known [] = Some []
all_known (None ∷ objects) = None
all_known (Some object ∷ objects) = option_map (λ rest. object ∷ rest) (all_known objects)

-- the value of a static atom: Unknown if some of its objects are
abbrev pub static_if_known : LiftedTask → ℕ → Option (List ℕ) → Kleene
static_if_known task predicate None = Unknown
static_if_known task predicate (Some objects) = static_value task (record { predicate = predicate; objects = objects })

-- the value of an atom: Unknown if it is fluent or some of its objects are unknown
abbrev pub partial_atom : LiftedTask → List (Option ℕ) → LAtom → Kleene
partial_atom task env atom = if is_fluent task.predicates atom.predicate then Unknown else static_if_known task atom.predicate (all_known (map (known_object env) atom.terms))

-- the value of an equality: Unknown if one of its objects is
abbrev pub partial_equal : Option ℕ → Option ℕ → Kleene
partial_equal None other = Unknown
partial_equal (Some object) None = Unknown
partial_equal (Some object) (Some other) = if object == other then Yes else No

-- the value of one layer of a condition, given the values of its parts: a quantified condition has the value of the
-- conjunction or the disjunction over the lists of objects of its ranges
abbrev pub partial_step : LiftedTask → LCond-F (List (Option ℕ) → Kleene) → List (Option ℕ) → Kleene
partial_step task Truth env = Yes
partial_step task (Holds atom) env = partial_atom task env atom
partial_step task (Equal term other) env = partial_equal (known_object env term) (known_object env other)
partial_step task (And parts) env = joined_all All (map (λ part. part env) parts.items)
partial_step task (Or parts) env = joined_all Any (map (λ part. part env) parts.items)
partial_step task (Not part) env = opposite (part.value env)
partial_step task (Imply part other) env = greater (opposite (part.value env)) (other.value env)
partial_step task (Forall ranges part) env = joined_all All (map (λ objects. part.value (env ++ map Some objects)) (tuples (objects_of ranges)))
partial_step task (Exists ranges part) env = joined_all Any (map (λ objects. part.value (env ++ map Some objects)) (tuples (objects_of ranges)))

-- the value of a condition if nothing is known of the fluent atoms, and some variables around it have no object
abbrev pub partial_value : LiftedTask → List (Option ℕ) → LCond → Kleene
partial_value task env condition = fold-LCond (List (Option ℕ) → Kleene) (partial_step task) condition env
