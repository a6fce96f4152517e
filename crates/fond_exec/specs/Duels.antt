-- The picks of a duel: those of an opponent who looks one step ahead, by the numbers of the rules; and for chance, those that the rules name.
use Rattle.std.specs.Prelude.{◌≡◌, ◌⊎◌, ℕ, ◌+◌, ◌<◌, ◌≤◌, ◌^◌, nat_lt, List, [], ◌∷◌, All, Bool, true, false, Some, if◌then◌else◌, length, slice_get}
use Rattle.std.specs.Option.{option_map_or}
use Rattle.fond_state.specs.Traces.{as_recorded}
use Rattle.fond_task.specs.declared.rule.Rule.{Rule}
use Rattle.fond_task.specs.declared.rule.Pair.{Pair}
use Rattle.fond_task.specs.declared.rule.Targets.{Targets}
use Rattle.fond_task.specs.declared.rule.Targets.TheVariants.{One, All as Each}
use Rattle.fond_task.specs.declared.task.Act.{Act}
use Rattle.fond_task.specs.declared.task.Entry.{Entry}
use Rattle.fond_task.specs.declared.task.Task.{Task}
use Rattle.fond_task.specs.Policies.{IsGoal, selected}
use Rattle.fond_task.specs.Solutions.{IsSolution}
use Rattle.fond_task.specs.Steps.{next_state}
use Rattle.fond_task.specs.Truth.{is_true}
use Rattle.fond_rules.specs.Select.{selected_rule}
use Rattle.fond_exec.specs.Lucky.{AreSure}
use Rattle.fond_exec.specs.Steps.{IsStuck, IsTaken}
use Rattle.fond_exec.specs.Traces.{Trace}

-- the weight of a state: 0 for a goal; otherwise one more than the number of the first rule that holds, or 2^32 if none does
abbrev pub weight : Task → List Rule → List Bool → ℕ
weight task rules state = if is_true state task.goal then 0 else option_map_or (λ rule. rule + 1) (selected_rule rules state) (2 ^ 32)

-- an outcome of an action is the first one that leads to a state of greatest weight
pub record IsHeaviest (task : Task) (rules : List Rule) (state : List Bool) (act : Act) (outcome : ℕ) : Type 0 where
  pub own : List Entry
  pub numbered : slice_get act.outcomes outcome ≡ Some own
  pub greatest : (other : ℕ) (entries : List Entry) → slice_get act.outcomes other ≡ Some entries → weight task rules (next_state state entries) ≤ weight task rules (next_state state own)
  pub first : (other : ℕ) (entries : List Entry) → other < outcome → slice_get act.outcomes other ≡ Some entries → weight task rules (next_state state entries) < weight task rules (next_state state own)

-- the outcome that targets name, if they name one and it is below a count, and else outcome 0
abbrev pub named_pick : Targets → ℕ → ℕ
named_pick (One outcome target) count = if nat_lt outcome count then outcome else 0
named_pick (Each targets) count = 0

-- the outcome that is picked for the action that a rule chooses in a state: of an unfair one, the first of greatest weight; of a fair one, the
-- one that the rule names, if it names one that the action has, and else outcome 0
abbrev pub IsPick : Task → List Rule → List Bool → ℕ → Act → ℕ → Type 0
IsPick task rules state number act outcome =
    ((act.unfair ≡ true) × IsHeaviest task rules state act outcome)
    ⊎ ((act.unfair ≡ false) × ((rule : Rule) × (slice_get rules number ≡ Some rule) × (outcome ≡ named_pick rule.targets (length act.outcomes))))

-- words are the picks along the run from a state, as many as there are words: each is that of the state in which the run is then; once the
-- run is at a goal or stuck, they are 0
pub data ArePicks (task : Task) (rules : List Rule) : List Bool → List ℕ → Type 0 where
  ended : (state : List Bool) → ArePicks task rules state []
  over : (state : List Bool) (words : List ℕ) → IsGoal task state ⊎ IsStuck task rules state → All (λ word. word ≡ 0) words → ArePicks task rules state words
  picked : (state : List Bool) (rule number outcome : ℕ) (after : List Bool) (words : List ℕ) → (taken : IsTaken task rules state outcome rule number after) → IsPick task rules state rule taken.act outcome
      → ArePicks task rules after words → ArePicks task rules state (outcome ∷ words)

-- if rules are sure and a solution, a trace over at least as many such picks from the initial state as there are rules ends at a goal
abbrev pub DuelsEnd : Type 0
DuelsEnd = (task : Task) (pairs : List Pair) (rules : List Rule) (words lines : List ℕ) (last : List Bool) → AreSure task pairs rules → IsSolution task (selected rules) → ArePicks task rules task.init words
    → length rules ≤ length words → Trace as_recorded task rules task.init words lines last → IsGoal task last
