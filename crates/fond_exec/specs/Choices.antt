-- What a rule list chooses in a state.
use Rattle.std.specs.Prelude.{◌≡◌, List, Bool, Some, length}
use Rattle.fond_task.specs.declared.task.Act.{Act}
use Rattle.fond_task.specs.declared.task.Task.{Task}
use Rattle.fond_task.specs.declared.rule.Rule.{Rule}
use Rattle.fond_task.specs.Policies.{IsGoal}
use Rattle.fond_rules.specs.Select.{selected_rule}
use Rattle.fond_exec.specs.Steps.{IsChosen, IsStuck}
use Rattle.fond_exec.specs.declared.choice.Choice.{Choice}
use Rattle.fond_exec.specs.declared.choice.Choice.TheVariants.{Chosen, Done, Stuck}

-- the choice in a state: it is a goal; it is no goal and stuck; or it is no goal, and the first rule that holds, of this number,
-- chooses an action, of this number and with so many outcomes, that is applicable
abbrev pub IsChoice : Task → List Rule → List Bool → Choice → Type 0
IsChoice task rules state Done = IsGoal task state
IsChoice task rules state Stuck = (¬ IsGoal task state) × IsStuck task rules state
IsChoice task rules state (Chosen rule number count) =
    (¬ IsGoal task state) × (selected_rule rules state ≡ Some rule) × ((act : Act) × IsChosen task rules state number act × (count ≡ length act.outcomes))
