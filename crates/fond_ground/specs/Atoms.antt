-- The fluent atoms of a task, and their numbers.
use Rattle.std.specs.Prelude.{ℕ, ◌==◌, ◌&&◌, Bool, List, [], Option, map, position, if◌then◌else◌}
use Rattle.std.specs.List.{enumerate_from, flat_map}
use Rattle.std.specs.Str.{bytes_eq}
use Rattle.fond_text.specs.declared.atom.Atom.{Atom}
use Rattle.fond_ast.specs.Ranges.{RangeList, objects_of}
use Rattle.fond_ast.specs.declared.task.LiftedTask.{LiftedTask}
use Rattle.fond_ast.specs.Conditions.{tuples}

-- the atoms of a predicate: one for each list of objects of its ranges, in order
abbrev pub atoms_over : ℕ → RangeList → List Atom
atoms_over predicate ranges = map (λ objects. record { predicate = predicate; objects = objects }) (tuples (objects_of ranges))

-- the fluent atoms: those of the fluent predicates, predicate by predicate
abbrev pub fluent_atoms : LiftedTask → List Atom
fluent_atoms task = flat_map (λ item. if item.1.fluent then atoms_over item.0 item.1.ranges else []) (enumerate_from 0 task.predicates)

-- whether two atoms have the same predicate and the same objects, in order
abbrev pub is_same_atom : Atom → Atom → Bool
is_same_atom atom other = atom.predicate == other.predicate && bytes_eq atom.objects other.objects

-- the number of an atom among the fluent atoms, if it is one
abbrev pub atom_number : LiftedTask → Atom → Option ℕ
atom_number task atom = position (is_same_atom atom) (fluent_atoms task)
