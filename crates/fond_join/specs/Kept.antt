-- Which ground actions of a task are kept.
use Rattle.std.specs.Prelude.{ℕ, Bool, true, false, not, List, filter, if◌then◌else◌}
use Rattle.std.specs.FinSet as set
use Rattle.fond_text.specs.declared.atom.Atom.{Atom}
use Rattle.fond_ast.specs.Ranges.{objects_of}
use Rattle.fond_ast.specs.Within.{is_fluent}
use Rattle.fond_ast.specs.declared.task.LSchema.{LSchema}
use Rattle.fond_ast.specs.declared.task.LiftedTask.{LiftedTask}
use Rattle.fond_ast.specs.Conditions.{tuples}
use Rattle.fond_ast.specs.Solutions.{initial}
use Rattle.fond_task.specs.declared.form.Kleene.{Kleene}
use Rattle.fond_task.specs.declared.form.Kleene.TheVariants.{No, Unknown, Yes}
use Rattle.fond_join.specs.Values.{condition_value}

-- whether a value is No
abbrev pub is_no : Kleene → Bool
is_no No = true
is_no value = false

-- the value of a static atom: Yes if it is an initial atom, and No if not
abbrev pub static_value : LiftedTask → Atom → Kleene
static_value task atom = if set.contains (initial task) atom then Yes else No

-- the value of an atom if nothing is known of the fluent atoms
abbrev pub open_value : LiftedTask → Atom → Kleene
open_value task atom = if is_fluent task.predicates atom.predicate then Unknown else static_value task atom

-- whether the ground action of a schema with these objects is kept: its precondition is not surely false if nothing is
-- known of the fluent atoms
abbrev pub is_kept : LiftedTask → LSchema → List ℕ → Bool
is_kept task schema objects = not (is_no (condition_value (open_value task) objects schema.pre))

-- the lists of objects of the kept ground actions of a schema, in order
abbrev pub kept_args : LiftedTask → LSchema → List (List ℕ)
kept_args task schema = filter (is_kept task schema) (tuples (objects_of schema.ranges))
