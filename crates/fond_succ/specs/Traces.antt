-- The trace of a rule list in the states of a task, over a list of words, by the rules of docs/COMMANDS.md.
use Rattle.std.specs.Prelude.{◌≡◌, ℕ, List, Some, length, slice_get}
use Rattle.fond_text.specs.declared.atom.GroundAction.{GroundAction}
use Rattle.fond_ast.specs.declared.task.LSchema.{LSchema}
use Rattle.fond_ast.specs.declared.task.LiftedTask.{LiftedTask}
use Rattle.fond_ast.specs.Outcomes.{Literal, outcomes, state_after}
use Rattle.fond_ast.specs.Solutions.{IsApplicable, IsGoal}
use Rattle.fond_ast.specs.States.{State}
use Rattle.fond_task.specs.declared.task.Task.{Task}
use Rattle.fond_task.specs.declared.rule.Rule.{Rule}
use Rattle.fond_rules.specs.Select.{selected_rule}
use Rattle.fond_state.specs.Traces.{Pick, Stepping, TraceOf}
use Rattle.fond_exec.specs.Traces.{step_line}
use Rattle.fond_ground.specs.Texts.{labels_of}
use Rattle.fond_succ.specs.Stands.{restrict}
use Rattle.fond_succ.specs.Solutions.{rules_policy}

-- the rules choose an action in a state, which is applicable there, and its outcomes are these
pub record Choose (task : LiftedTask) (game : Task) (rules : List Rule) (state : State) (action : GroundAction) (choices : List (List Literal)) : Type 0 where
  pub chosen : rules_policy task game rules state ≡ Some action
  pub applicable : IsApplicable task state action
  pub schema : LSchema
  pub numbered : slice_get task.schemas action.schema ≡ Some schema
  pub choices_are : choices ≡ outcomes action.objects schema.effect

-- how a rule list steps the states of a task: a choice is an action with its outcomes, and the line of a step names the first rule that
-- holds
abbrev pub stepping : LiftedTask → Task → List Rule → Stepping State (GroundAction × List (List Literal))
stepping task game rules = record {
  IsGoal = IsGoal task;
  Chooses = λ state choice. Choose task game rules state choice.0 choice.1;
  count = λ choice. length choice.1;
  Leads = λ state choice number line next. (rule : ℕ) × (selected_rule rules (restrict task state) ≡ Some rule) × (line ≡ step_line (labels_of task) rule choice.0 number)
      × ((outcome : List Literal) × (slice_get choice.1 number ≡ Some outcome) × (next ≡ state_after state outcome));
}

-- the trace of rules from a state over words, each of which picks an outcome: its lines and its last state
abbrev pub Trace : Pick → LiftedTask → Task → List Rule → State → List ℕ → List ℕ → State → Type 0
Trace pick task game rules = TraceOf (stepping task game rules) pick
