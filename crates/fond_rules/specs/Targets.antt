-- Targets that are met, and pairs that lead into a cube.
use Rattle.std.specs.Prelude.{◌≡◌, ℕ, List, Some, slice_get, length, Contains}
use Rattle.fond_state.specs.Cubes.{CubeLiesIn, Contradicts}
use Rattle.fond_task.specs.declared.task.Act.{Act}
use Rattle.fond_task.specs.declared.task.Entry.{Entry}
use Rattle.fond_task.specs.declared.task.Task.{Task}
use Rattle.fond_task.specs.Images.{image}
use Rattle.fond_task.specs.declared.rule.Pair.{Pair}
use Rattle.fond_task.specs.declared.rule.Rule.{Rule}
use Rattle.fond_task.specs.declared.rule.Target.{Target}
use Rattle.fond_task.specs.Layers.{CubeView}
use Rattle.fond_task.specs.Rules.{Meets, IsEarlier}

-- a cube contradicts the condition of each pair of an action
abbrev pub AllContradict : List Pair → ℕ → CubeView → Type 0
AllContradict pairs act cond = (pair : Pair) → Contains pairs pair → pair.act ≡ act → Contradicts cond pair.cond

-- a cube meets a target that is earlier than the rule of this number
abbrev pub MeetsEarlier : Task → List Rule → ℕ → CubeView → Target → Type 0
MeetsEarlier task rules number cube target = IsEarlier number target × Meets task rules cube target

-- there is an earlier target for each outcome, and the outcome's image meets it
abbrev pub EachMeets : Task → List Rule → ℕ → CubeView → List (List Entry) → List Target → Type 0
EachMeets task rules number cond outcomes targets =
    (length targets ≡ length outcomes)
    × ((at : ℕ) (target : Target) (entries : List Entry) → slice_get targets at ≡ Some target → slice_get outcomes at ≡ Some entries → MeetsEarlier task rules number (image cond entries) target)

-- the pair's action and outcome exist, and the outcome leads from the pair's cube into this cube
pub record LeadsInto (task : Task) (target : CubeView) (pair : Pair) : Type 0 where
  pub act : Act
  pub has_act : slice_get task.acts pair.act ≡ Some act
  pub outcome : List Entry
  pub has_outcome : slice_get act.outcomes pair.outcome ≡ Some outcome
  pub leads : CubeLiesIn (image pair.cond outcome) target
