-- The numbers of actions and atoms by their texts.
use Rattle.std.specs.Prelude.{ℕ, List, Option, position}
use Rattle.std.specs.Str.{bytes_eq}
use Rattle.fond_task.specs.declared.task.Task.{Task}
use Rattle.fond_task.specs.Texts.{atom_text, action_text}

-- the number of the first action with this text, if the task has one
abbrev pub act_number : Task → List ℕ → Option ℕ
act_number task text = position (λ act. bytes_eq (action_text task.labels act.ground) text) task.acts

-- the number of the first atom with this text, if the task has one
abbrev pub atom_number : Task → List ℕ → Option ℕ
atom_number task text = position (λ atom. bytes_eq (atom_text task.labels atom) text) task.atoms
