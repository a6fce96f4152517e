-- Arrays, value by value, and the strings of atoms.
use Rattle.std.specs.Prelude.{ℕ, List, [], ◌∷◌, ◌++◌, Bool, true, map}
use Rattle.json.specs.Print.{quoted}
use Rattle.serde_json.specs.Data.{Data}
use Rattle.serde_json.specs.Written.{comma_if, compact_text}
use Rattle.fond_task.specs.declared.task.Task.{Task}
use Rattle.fond_task.specs.Texts.{atom_text}

-- the texts of values, each after a comma, but for the first one if nothing comes before it
abbrev pub listed : Bool → List Data → List ℕ
listed later [] = []
listed later (value ∷ values) = comma_if later ++ (compact_text value ++ listed true values)

-- whether something comes before what follows these values
abbrev pub comes_after : Bool → List Data → Bool
comes_after later [] = later
comes_after later (value ∷ values) = true

-- the strings of the atoms of a task
abbrev pub atom_strings : Task → List (List ℕ)
atom_strings task = map (λ atom. quoted (atom_text task.labels atom)) task.atoms
