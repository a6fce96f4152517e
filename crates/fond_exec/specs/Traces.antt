-- The traces of a rule list in a ground task, by the rules of docs/COMMANDS.md.
use Rattle.std.specs.Prelude.{◌≡◌, ℕ, List, ◌++◌, Bool, Some, length, codes, slice_get}
use Rattle.std.specs.Fmt.{decimal}
use Rattle.fond_text.specs.declared.atom.GroundAction.{GroundAction}
use Rattle.fond_state.specs.Traces.{Pick, Stepping, TraceOf}
use Rattle.fond_task.specs.declared.task.Act.{Act}
use Rattle.fond_task.specs.declared.task.Entry.{Entry}
use Rattle.fond_task.specs.declared.task.Labels.{Labels}
use Rattle.fond_task.specs.declared.task.Task.{Task}
use Rattle.fond_task.specs.Steps.{next_state}
use Rattle.fond_task.specs.Texts.{action_text, state_text}
use Rattle.fond_task.specs.Truth.{is_true}
use Rattle.fond_task.specs.declared.rule.Rule.{Rule}
use Rattle.fond_task.specs.Policies.{IsGoal}
use Rattle.fond_rules.specs.Select.{selected_rule}
use Rattle.fond_exec.specs.Steps.{IsChosen}

-- the line of a step that is taken: the rule, its action and the outcome
abbrev pub step_line : Labels → ℕ → GroundAction → ℕ → List ℕ
step_line labels rule action outcome = codes "rule " ++ decimal rule ++ codes " " ++ action_text labels action ++ codes " outcome " ++ decimal outcome ++ codes "\n"

-- how a rule list steps states: a choice is an action with its number, and the line of a step names the first rule that holds
abbrev pub stepping : Task → List Rule → Stepping (List Bool) (ℕ × Act)
stepping task rules = record {
  IsGoal = IsGoal task;
  Chooses = λ state choice. IsChosen task rules state choice.0 choice.1;
  count = λ choice. length choice.1.outcomes;
  Leads = λ state choice outcome line next. (rule : ℕ) × (selected_rule rules state ≡ Some rule) × (line ≡ step_line task.labels rule choice.1.ground outcome)
      × ((entries : List Entry) × (slice_get choice.1.outcomes outcome ≡ Some entries) × (next ≡ next_state state entries));
}

-- the trace of rules from a state over words
abbrev pub Trace : Pick → Task → List Rule → List Bool → List ℕ → List ℕ → List Bool → Type 0
Trace pick task rules = TraceOf (stepping task rules) pick

-- a text is the trace from the initial state, followed by the state in which it ends, and the flag is true exactly if that is a goal
abbrev pub IsTraceText : Pick → Task → List Rule → List ℕ → List ℕ → Bool → Type 0
IsTraceText pick task rules words text is_goal =
    (lines : List ℕ) × (last : List Bool) × Trace pick task rules task.init words lines last × (text ≡ lines ++ state_text task last) × (is_goal ≡ is_true last task.goal)
