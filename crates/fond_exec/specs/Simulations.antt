-- Simulations: runs whose outcomes somebody picks.
use Rattle.std.specs.Prelude.{◌≡◌, ℕ, ◌+◌, ◌<◌, ◌^◌, List, Bool, length}
use Rattle.fond_task.specs.Policies.{IsGoal}
use Rattle.fond_exec.specs.Runs.{Run}
use Rattle.fond_exec.specs.Steps.{IsStuck, IsTaken}
use Rattle.fond_exec.specs.declared.step.SimStep.{SimStep}
use Rattle.fond_exec.specs.declared.step.SimStep.TheVariants.{Took, Done, Stuck}

-- one who may be asked at each step for one of so many outcomes, if there are any, and answers one of them
abbrev pub IsChooser : (ℕ → ℕ → Type 0) → (ℕ → ℕ → ℕ → Type 0) → Type 0
IsChooser MayAsk Picks = (step count : ℕ) → step < 2 ^ 64 → 0 < count → count < 2 ^ 32 → MayAsk step count × ((outcome : ℕ) → Picks step count outcome → outcome < count)

-- the answer of a step of a simulation, and the state after it: the state is a goal; it is no goal and stuck; or the first rule
-- that holds is followed, with the outcome that is picked among those of its action
abbrev pub IsSimStep : (ℕ → ℕ → ℕ → Type 0) → Run → ℕ → SimStep → List Bool → Type 0
IsSimStep Picks run steps Done after = IsGoal run.task run.state × (after ≡ run.state)
IsSimStep Picks run steps Stuck after = (¬ IsGoal run.task run.state) × IsStuck run.task run.rules run.state × (after ≡ run.state)
IsSimStep Picks run steps (Took rule number outcome) after = (taken : IsTaken run.task run.rules run.state outcome rule number after) × Picks steps (length taken.act.outcomes) outcome

-- how many steps were taken after a step
abbrev pub steps_after : SimStep → ℕ → ℕ
steps_after (Took rule number outcome) steps = steps + 1
steps_after other steps = steps
