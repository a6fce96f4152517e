-- The laws between a task and its ground task.
use Rattle.std.specs.Prelude.{◌≡◌, ℕ, Bool, List, map}
use Rattle.fond_text.specs.declared.atom.GroundAction.{GroundAction}
use Rattle.fond_ast.specs.declared.task.LiftedTask.{LiftedTask}
use Rattle.fond_ast.specs.Outcomes.{outcomes, state_after}
use Rattle.fond_ast.specs.Solutions.{initial}
use Rattle.fond_exec.specs.Traces as ground
use Rattle.fond_state.specs.Traces.{Pick}
use Rattle.fond_task.specs.declared.rule.Rule.{Rule}
use Rattle.fond_ground.specs.Grounds.{IsActOf, IsGroundOf}
use Rattle.fond_ground.specs.Texts.{state_text}
use Rattle.fond_task.specs.declared.task.Act.{Act}
use Rattle.fond_task.specs.declared.task.Task.{Task}
use Rattle.fond_task.specs.Steps.{next_state}
use Rattle.fond_task.specs.Texts as ground_texts
use Rattle.fond_succ.specs.Stands.{stands}
use Rattle.fond_succ.specs.Games.{IsState, PlaysGameOf}
use Rattle.fond_succ.specs.Solutions.{Agree}
use Rattle.fond_succ.specs.Traces.{Trace}

-- the ground task of a task plays its game
abbrev pub GroundTasksPlay : Type 0
GroundTasksPlay = (task : LiftedTask) (game : Task) → IsGroundOf task game → PlaysGameOf task game

-- the ground task of a task agrees with it on solutions, reached states and their number, stuck runs, lassos and least rankings,
-- solvability, and how many states can be reached at all
abbrev pub GroundTasksAgree : Type 0
GroundTasksAgree = (task : LiftedTask) (game : Task) → IsGroundOf task game → Agree task game

-- the outcomes of an action lead to states that stand for those to which the outcomes of its effect lead, one by one
abbrev pub OutcomesLeadAlike : Type 0
OutcomesLeadAlike = (task : LiftedTask) (game : Task) (action : GroundAction) (act : Act) (is : IsActOf task action act) (values : List Bool) → IsGroundOf task game → IsState game values
    → map (λ outcome. stands task (next_state values outcome)) act.outcomes ≡ map (state_after (stands task values)) (outcomes action.objects is.schema.effect)

-- a state of the ground task and the one for which it stands have the same text
abbrev pub TextsAgree : Type 0
TextsAgree = (task : LiftedTask) (game : Task) (values : List Bool) → IsGroundOf task game → IsState game values → ground_texts.state_text game values ≡ state_text task (stands task values)

-- different states stand for different ones
abbrev pub StandsIsInjective : Type 0
StandsIsInjective = (task : LiftedTask) (game : Task) (values other : List Bool) → IsGroundOf task game → IsState game values → IsState game other → stands task values ≡ stands task other → values ≡ other

-- a trace of the ground task stands for one of the task, with the same lines
abbrev pub TracesStand : Type 0
TracesStand = (pick : Pick) (task : LiftedTask) (game : Task) (rules : List Rule) (words lines : List ℕ) (last : List Bool) → IsGroundOf task game
    → ground.Trace pick game rules game.init words lines last → Trace pick task game rules (initial task) words lines (stands task last)
