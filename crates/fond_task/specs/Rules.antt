-- Sure and lean rules, and lean pairs.
use Rattle.std.specs.Prelude.{◌≡◌, ℕ, ◌<◌, List, Bool, true, false, Some, slice_get, length, Contains, ⊤}
use Rattle.fond_state.specs.Cubes.{literal_at, CubeLiesIn, Contradicts, without_literal}
use Rattle.fond_task.specs.declared.form.Kleene.TheVariants.{Yes}
use Rattle.fond_task.specs.declared.task.Act.{Act}
use Rattle.fond_task.specs.declared.task.Entry.{Entry}
use Rattle.fond_task.specs.declared.task.Task.{Task}
use Rattle.fond_task.specs.Values.{value}
use Rattle.fond_task.specs.Images.{image}
use Rattle.fond_task.specs.declared.rule.Pair.{Pair}
use Rattle.fond_task.specs.declared.rule.Rule.{Rule}
use Rattle.fond_task.specs.declared.rule.Target.{Target}
use Rattle.fond_task.specs.declared.rule.Target.TheVariants.{Goal, Rule as ToRule}
use Rattle.fond_task.specs.declared.rule.Targets.{Targets}
use Rattle.fond_task.specs.declared.rule.Targets.TheVariants.{One, All}
use Rattle.fond_task.specs.Layers.{CubeView, IsSurePair}

-- a cube meets a target: the goal is Yes on it, or it lies in the condition of the rule
abbrev pub Meets : Task → List Rule → CubeView → Target → Type 0
Meets task rules cube Goal = value cube task.goal ≡ Yes
Meets task rules cube (ToRule number) = (rule : Rule) × (slice_get rules number ≡ Some rule) × CubeLiesIn cube rule.cond

-- a target is earlier than the rule of this number: it is the goal, or a rule of a smaller number
abbrev pub IsEarlier : ℕ → Target → Type 0
IsEarlier number Goal = ⊤
IsEarlier number (ToRule other) = other < number

-- the targets of the rule of this number are met from its condition by its action: a fair action has one named
-- outcome, whose image meets an earlier target; an unfair one has for each outcome an earlier target that the
-- outcome's image meets
abbrev pub AreMet : Task → List Rule → ℕ → CubeView → Act → Targets → Type 0
AreMet task rules number cond act (One outcome target) =
    (act.unfair ≡ false) × IsEarlier number target × ((entries : List Entry) × (slice_get act.outcomes outcome ≡ Some entries) × Meets task rules (image cond entries) target)
AreMet task rules number cond act (All targets) =
    (act.unfair ≡ true) × (length targets ≡ length act.outcomes)
    × ((at : ℕ) (target : Target) (entries : List Entry) → slice_get targets at ≡ Some target → slice_get act.outcomes at ≡ Some entries → IsEarlier number target × Meets task rules (image cond entries) target)

-- the rule of this number is sure if the precondition of its action has the value Yes on its condition, its condition
-- contradicts that of each pair of its action, and its targets are met
pub record IsSureRule (task : Task) (pairs : List Pair) (rules : List Rule) (number : ℕ) (rule : Rule) : Type 0 where
  pub act : Act
  pub has_act : slice_get task.acts rule.act ≡ Some act
  pub applicable : value rule.cond act.pre ≡ Yes
  pub barred : (pair : Pair) → Contains pairs pair → pair.act ≡ rule.act → Contradicts rule.cond pair.cond
  pub met : AreMet task rules number rule.cond act rule.targets

-- a rule is lean if it is sure, and dropping any one literal of its condition makes it not sure
pub record IsLeanRule (task : Task) (pairs : List Pair) (rules : List Rule) (number : ℕ) (rule : Rule) : Type 0 where
  pub sure : IsSureRule task pairs rules number rule
  pub needs : (atom : ℕ) (sign : Bool) → literal_at rule.cond atom ≡ Some sign → ¬ IsSureRule task pairs rules number (record rule { cond = without_literal rule.cond atom })

-- a pair is lean if it is sure, and dropping any one literal of its condition makes it not sure
pub record IsLeanPair (task : Task) (layers : List (List CubeView)) (pair : Pair) : Type 0 where
  pub sure : IsSurePair task layers pair
  pub needs : (atom : ℕ) (sign : Bool) → literal_at pair.cond atom ≡ Some sign → ¬ IsSurePair task layers (record pair { cond = without_literal pair.cond atom })
