-- Where rules hold, and the targets of an action in a state: goals, and rules that hold in the next states.
use Rattle.std.specs.Prelude.{◌≡◌, ◌⊎◌, ℕ, List, Bool, true, false, Some, length, slice_get, Contains}
use Rattle.fond_state.specs.Cubes.{LiesIn}
use Rattle.fond_task.specs.Steps.{next_state}
use Rattle.fond_task.specs.declared.task.Act.{Act}
use Rattle.fond_task.specs.declared.task.Entry.{Entry}
use Rattle.fond_task.specs.declared.task.Task.{Task}
use Rattle.fond_task.specs.Policies.{IsGoal}
use Rattle.fond_task.specs.declared.rule.Rule.{Rule}
use Rattle.fond_task.specs.declared.rule.Target.{Target}
use Rattle.fond_task.specs.declared.rule.Target.TheVariants.{Goal, Rule as ToRule}
use Rattle.fond_task.specs.declared.rule.Targets.{Targets}
use Rattle.fond_task.specs.declared.rule.Targets.TheVariants.{One, All}

-- the rule of this number holds in a state
pub record HoldsIn (rules : List Rule) (number : ℕ) (state : List Bool) : Type 0 where
  pub rule : Rule
  pub numbered : slice_get rules number ≡ Some rule
  pub lies : LiesIn state rule.cond

-- some rule holds in a state
abbrev pub HasRule : List Rule → List Bool → Type 0
HasRule rules state = (number : ℕ) × HoldsIn rules number state

-- a state is a goal, or some rule holds in it
abbrev pub IsCovered : Task → List Rule → List Bool → Type 0
IsCovered task rules state = IsGoal task state ⊎ HasRule rules state

-- a target leads on from a state: the target `goal` from a goal, and a rule from a state in which it holds
abbrev pub LeadsOn : Task → List Rule → List Bool → Target → Type 0
LeadsOn task rules state Goal = IsGoal task state
LeadsOn task rules state (ToRule number) = HoldsIn rules number state

-- targets of an action in a state: if it is fair, one that the named outcome reaches, and if it is unfair, one for each
-- outcome
abbrev pub AreTargets : Task → List Rule → List Bool → Act → Targets → Type 0
AreTargets task rules state act (One outcome target) =
    (act.unfair ≡ false) × ((entries : List Entry) × (slice_get act.outcomes outcome ≡ Some entries) × LeadsOn task rules (next_state state entries) target)
AreTargets task rules state act (All targets) =
    (act.unfair ≡ true) × (length targets ≡ length act.outcomes)
    × ((at : ℕ) (target : Target) (entries : List Entry) → slice_get targets at ≡ Some target → slice_get act.outcomes at ≡ Some entries → LeadsOn task rules (next_state state entries) target)

-- an action in a state has targets: if it is fair, some outcome leads to a goal or to a state in which a rule holds, and if
-- it is unfair, each outcome does
pub record HasTargets (task : Task) (rules : List Rule) (state : List Bool) (act : Act) : Type 0 where
  pub fair : act.unfair ≡ false → (entries : List Entry) × Contains act.outcomes entries × IsCovered task rules (next_state state entries)
  pub unfair : act.unfair ≡ true → (entries : List Entry) → Contains act.outcomes entries → IsCovered task rules (next_state state entries)
