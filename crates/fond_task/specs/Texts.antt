-- How ground atoms, ground actions and states are written.
use Rattle.std.specs.Prelude.{ℕ, List, [], ◌++◌, Bool, codes, slice_index_or, if◌then◌else◌}
use Rattle.std.specs.List.{flat_map, enumerate_from}
use Rattle.fond_state.specs.Cubes.{truth_at}
use Rattle.fond_text.specs.declared.atom.Atom.{Atom}
use Rattle.fond_text.specs.declared.atom.GroundAction.{GroundAction}
use Rattle.fond_task.specs.declared.task.Labels.{Labels}
use Rattle.fond_task.specs.declared.task.Task.{Task}

-- the name of a number, which is empty if there is none
abbrev pub name_at : List (List ℕ) → ℕ → List ℕ
name_at names number = slice_index_or names number []

-- the text of a name and the names of objects: between parentheses, separated by single spaces
abbrev pub named_text : List (List ℕ) → List ℕ → List ℕ → List ℕ
named_text names name objects = codes "(" ++ name ++ flat_map (λ object. codes " " ++ name_at names object) objects ++ codes ")"

-- the text of an atom: the names of its predicate and its objects
abbrev pub atom_text : Labels → Atom → List ℕ
atom_text labels atom = named_text labels.objects (name_at labels.predicates atom.predicate) atom.objects

-- the text of an action: the names of its schema and its objects
abbrev pub action_text : Labels → GroundAction → List ℕ
action_text labels action = named_text labels.objects (name_at labels.schemas action.schema) action.objects

-- the text of a state: the line `state` and a line for each true atom, in the order of the atoms
abbrev pub state_text : Task → List Bool → List ℕ
state_text task state =
    codes "state\n" ++ flat_map (λ item. if truth_at state item.0 then atom_text task.labels item.1 ++ codes "\n" else []) (enumerate_from 0 task.atoms)
