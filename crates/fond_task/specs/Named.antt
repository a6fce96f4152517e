-- Atoms and actions whose numbers all have names.
use Rattle.std.specs.Prelude.{ℕ, ◌&&◌, Bool, List, length, nat_lt}
use Rattle.std.specs.List.{list_all}
use Rattle.fond_text.specs.declared.atom.Atom.{Atom}
use Rattle.fond_text.specs.declared.atom.GroundAction.{GroundAction}
use Rattle.fond_task.specs.declared.task.Labels.{Labels}

-- whether labels name each of these objects
abbrev pub are_named_objects : Labels → List ℕ → Bool
are_named_objects labels objects = list_all (λ object. nat_lt object (length labels.objects)) objects

-- whether labels name the predicate and the objects of an atom
abbrev pub is_named_atom : Labels → Atom → Bool
is_named_atom labels atom = nat_lt atom.predicate (length labels.predicates) && are_named_objects labels atom.objects

-- whether labels name the schema and the objects of an action
abbrev pub is_named_action : Labels → GroundAction → Bool
is_named_action labels action = nat_lt action.schema (length labels.schemas) && are_named_objects labels action.objects
