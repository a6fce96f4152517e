-- Pairs, rules, items and rows, one by one, that belong to a task.
use Rattle.std.specs.Prelude.{◌≡◌, ℕ, ◌<◌, ◌^◌, length}
use Rattle.fond_task.specs.declared.task.Task.{Task}
use Rattle.fond_task.specs.declared.rule.Pair.{Pair}
use Rattle.fond_task.specs.declared.rule.Rule.{Rule}
use Rattle.fond_rules.specs.Belongs.{HasTarget}
use Rattle.fond_rules.specs.declared.table.TableRow.{TableRow}
use Rattle.fond_policy.specs.declared.item.Item.{Item}
use Rattle.fond_policy.specs.declared.item.Way.TheVariants.{Goal}
use Rattle.fond_policy.specs.Belongs.{HasNumber}
use Rattle.fond_policy.specs.Sizes.{IsSmallPair, AreSmallTargets, IsSmallWay}

-- a pair belongs to a task: its condition is over the task's atoms, and the task has its action
abbrev pub IsPairOf : Task → Pair → Type 0
IsPairOf task pair = (length pair.cond ≡ length task.atoms) × (pair.act < length task.acts)

-- a rule belongs to a task: its condition is over the task's atoms, the task has its action, and it has a target
abbrev pub IsRuleOf : Task → Rule → Type 0
IsRuleOf task rule = (length rule.cond ≡ length task.atoms) × (rule.act < length task.acts) × HasTarget rule.targets

-- what reading a pair ensures: it belongs to the task, and its numbers are small
abbrev pub IsReadPair : Task → Pair → Type 0
IsReadPair task pair = (length pair.cond ≡ length task.atoms) × (pair.act < length task.acts) × IsSmallPair pair

-- what reading a rule ensures: it belongs to the task, and its numbers are small
abbrev pub IsReadRule : Task → Rule → Type 0
IsReadRule task rule = (length rule.cond ≡ length task.atoms) × (rule.act < length task.acts) × HasTarget rule.targets × AreSmallTargets rule.targets

-- what reading an item ensures: it belongs to the task, and its numbers are small
abbrev pub IsReadItem : Task → Item → Type 0
IsReadItem task item = (length item.cube ≡ length task.atoms) × HasNumber item.way × IsSmallWay item.way

-- what reading an item with its rank ensures: it belongs to the task, its numbers are small, and the rank of an item of goals is 0
abbrev pub IsReadRanked : Task → Item × ℕ → Type 0
IsReadRanked task entry = IsReadItem task entry.0 × (entry.1 < 2 ^ 64) × (entry.0.way ≡ Goal → entry.1 ≡ 0)

-- a row belongs to a task: its condition is over the task's atoms, and the task has its action
abbrev pub IsRowOf : Task → TableRow → Type 0
IsRowOf task row = (length row.cond ≡ length task.atoms) × (row.act < length task.acts)
