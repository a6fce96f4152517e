-- One word of the picks of an opponent.
use Rattle.std.specs.Prelude.{◌≡◌, ◌⊎◌, ℕ, List, Bool}
use Rattle.fond_task.specs.declared.rule.Rule.{Rule}
use Rattle.fond_task.specs.declared.task.Task.{Task}
use Rattle.fond_task.specs.Policies.{IsGoal}
use Rattle.fond_exec.specs.Duels.{IsPick}
use Rattle.fond_exec.specs.Steps.{IsStuck, IsTaken}

-- the word of a state, and the state after it: at a goal or stuck, 0 and the same state; otherwise the pick, and the state to which it leads
abbrev pub IsWord : Task → List Rule → List Bool → ℕ → List Bool → Type 0
IsWord task rules state word after =
    ((IsGoal task state ⊎ IsStuck task rules state) × (word ≡ 0) × (after ≡ state))
    ⊎ ((rule : ℕ) × (number : ℕ) × (taken : IsTaken task rules state word rule number after) × IsPick task rules state rule taken.act word)
