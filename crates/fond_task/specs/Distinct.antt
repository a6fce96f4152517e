-- Atoms and actions without repetition.
use Rattle.std.specs.Prelude.{ℕ, Bool, List, ◌∷◌, map}
use Rattle.fond_text.specs.Lists.{are_distinct_texts}
use Rattle.fond_text.specs.declared.atom.Atom.{Atom}
use Rattle.fond_text.specs.declared.atom.GroundAction.{GroundAction}
use Rattle.fond_task.specs.declared.task.Act.{Act}

-- the numbers of an atom: that of its predicate, and those of its objects
abbrev pub atom_numbers : Atom → List ℕ
atom_numbers atom = atom.predicate ∷ atom.objects

-- the numbers of an action: that of its schema, and those of its objects
abbrev pub action_numbers : GroundAction → List ℕ
action_numbers action = action.schema ∷ action.objects

-- whether no atom occurs twice
abbrev pub are_distinct_atoms : List Atom → Bool
are_distinct_atoms atoms = are_distinct_texts (map atom_numbers atoms)

-- whether no two actions have the same name
abbrev pub are_distinct_acts : List Act → Bool
are_distinct_acts acts = are_distinct_texts (map (λ act. action_numbers act.ground) acts)
