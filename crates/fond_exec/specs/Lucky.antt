-- Lucky steps, and how many of them come one after the other.
use Rattle.std.specs.Prelude.{◌≡◌, ◌⊎◌, ℕ, zero, suc, ◌<◌, ◌≤◌, List, Bool, Some, slice_get, length, ⊤}
use Rattle.fond_task.specs.declared.task.Task.{Task}
use Rattle.fond_task.specs.declared.rule.Pair.{Pair}
use Rattle.fond_task.specs.declared.rule.Rule.{Rule}
use Rattle.fond_task.specs.declared.rule.Target.{Target}
use Rattle.fond_task.specs.declared.rule.Targets.TheVariants.{One}
use Rattle.fond_task.specs.Policies.{IsGoal, IsUnfair}
use Rattle.fond_task.specs.Rules.{IsSureRule}
use Rattle.fond_rules.specs.Select.{selected_rule}
use Rattle.fond_exec.specs.Steps.{IsTaken}
use Rattle.fond_state.specs.Traces.{Pick, TraceOf}
use Rattle.fond_exec.specs.Traces.{Trace}

-- a rule names an outcome: it is that of its one target
pub record Names (rules : List Rule) (number outcome : ℕ) : Type 0 where
  pub rule : Rule
  pub numbered : slice_get rules number ≡ Some rule
  pub target : Target
  pub named : rule.targets ≡ One outcome target

-- a step by a rule and its action is lucky: an opponent picks the outcome, or it is the one that the rule names
abbrev pub IsLucky : Task → List Rule → ℕ → ℕ → ℕ → Type 0
IsLucky task rules rule number outcome = IsUnfair task number ⊎ Names rules rule outcome

-- a trace begins with at least this many lucky steps
abbrev pub BeginsLucky : (pick : Pick) (task : Task) (rules : List Rule) (state : List Bool) (words lines : List ℕ) (last : List Bool) → ℕ → Trace pick task rules state words lines last → Type 0
BeginsLucky pick task rules state words lines last zero trace = ⊤
BeginsLucky pick task rules state words lines last (suc count) (TraceOf.took one word left choice line next text end open_ chosen leads later) =
    IsLucky task rules leads.0 choice.0 (pick (length choice.1.outcomes) word) × BeginsLucky pick task rules next left text end count later
BeginsLucky pick task rules state words lines last (suc count) other = ⊥

-- rules are sure, each at its number
abbrev pub AreSure : Task → List Pair → List Rule → Type 0
AreSure task pairs rules = (number : ℕ) (rule : Rule) → slice_get rules number ≡ Some rule → IsSureRule task pairs rules number rule

-- a lucky step by sure rules leads to a goal, or to a state in which an earlier rule is the first that holds
abbrev pub LuckyStepsDescend : Type 0
LuckyStepsDescend = (task : Task) (pairs : List Pair) (rules : List Rule) (state : List Bool) (outcome rule number : ℕ) (after : List Bool) → length state ≡ length task.atoms → AreSure task pairs rules
    → IsTaken task rules state outcome rule number after → IsLucky task rules rule number outcome → IsGoal task after ⊎ ((earlier : ℕ) × (selected_rule rules after ≡ Some earlier) × (earlier < rule))

-- no more lucky steps come one after the other than there are sure rules, and a trace that begins with so many, and at least
-- one, ends at a goal
abbrev pub LuckyStepsEnd : Type 0
LuckyStepsEnd = (pick : Pick) (task : Task) (pairs : List Pair) (rules : List Rule) (state : List Bool) (words lines : List ℕ) (last : List Bool) → length state ≡ length task.atoms → AreSure task pairs rules
    → (trace : Trace pick task rules state words lines last) → (count : ℕ) → BeginsLucky pick task rules state words lines last count trace → (count ≤ length rules) × (0 < count → length rules ≤ count → IsGoal task last)
