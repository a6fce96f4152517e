-- The values of conditions on cubes over the fluent atoms, and the ground conditions that stand for them.
use Rattle.std.specs.Prelude.{◌≡◌, ℕ, Bool, true, List, Option, Some, None}
use Rattle.fond_text.specs.declared.atom.Atom.{Atom}
use Rattle.fond_ast.specs.declared.form.LCond.{LCond}
use Rattle.fond_ast.specs.declared.task.LiftedTask.{LiftedTask}
use Rattle.fond_join.specs.Kept.{static_value}
use Rattle.fond_join.specs.Values.{condition_value}
use Rattle.fond_state.specs.Cubes.{literal_at}
use Rattle.fond_task.specs.declared.form.Form.{Form}
use Rattle.fond_task.specs.declared.form.Kleene.{Kleene}
use Rattle.fond_task.specs.Values.{literal_value, value}
use Rattle.fond_ground.specs.Atoms.{atom_number}

-- the value of the fluent atom of this number on a cube, or a value if there is no number
abbrev pub value_or : List (Option Bool) → Kleene → Option ℕ → Kleene
value_or cube static None = static
value_or cube static (Some number) = literal_value (literal_at cube number) true

-- the value of an atom on a cube: a fluent atom has the value that the cube gives it, a static atom its own
abbrev pub atom_value : LiftedTask → List (Option Bool) → Atom → Kleene
atom_value task cube atom = value_or cube (static_value task atom) (atom_number task atom)

-- a ground condition stands for a condition, where these are the objects of the variables around it, if both have the same
-- value on every cube
abbrev pub StandsFor : LiftedTask → List ℕ → LCond → Form → Type 0
StandsFor task env condition form = (cube : List (Option Bool)) → value cube form ≡ condition_value (atom_value task cube) env condition
