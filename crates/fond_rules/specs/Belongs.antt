-- Rules and pairs that belong to a task.
use Rattle.std.specs.Prelude.{◌≡◌, ℕ, ◌<◌, List, All, length, ⊤}
use Rattle.fond_task.specs.declared.task.Task.{Task}
use Rattle.fond_task.specs.declared.rule.Pair.{Pair}
use Rattle.fond_task.specs.declared.rule.Rule.{Rule}
use Rattle.fond_task.specs.declared.rule.Targets.{Targets}
use Rattle.fond_task.specs.declared.rule.Targets.TheVariants.{One, All as Each}
use Rattle.fond_rules.specs.Select.{AreOver}

-- the conditions of all pairs are over this many atoms
abbrev pub ArePairsOver : ℕ → List Pair → Type 0
ArePairsOver atoms pairs = All (λ pair. length pair.cond ≡ atoms) pairs

-- the task has the actions of all rules
abbrev pub AreActsThere : Task → List Rule → Type 0
AreActsThere task rules = All (λ rule. rule.act < length task.acts) rules

-- the targets of a rule are at least one
abbrev pub HasTarget : Targets → Type 0
HasTarget (One outcome target) = ⊤
HasTarget (Each targets) = 0 < length targets

-- rules belong to a task, whatever their targets are: their conditions are over its atoms, and it has their actions
pub record BelongTo (task : Task) (rules : List Rule) : Type 0 where
  pub over : AreOver (length task.atoms) rules
  pub there : AreActsThere task rules

-- each rule of a list has a target
abbrev pub HaveTargets : List Rule → Type 0
HaveTargets rules = All (λ rule. HasTarget rule.targets) rules
