-- The law of policies with covers.
use Rattle.std.specs.Prelude.{ℕ, List}
use Rattle.fond_task.specs.declared.task.Task.{Task}
use Rattle.fond_task.specs.declared.rule.Pair.{Pair}
use Rattle.fond_task.specs.declared.rule.Rule.{Rule}
use Rattle.fond_task.specs.Layers.{CubeView}
use Rattle.fond_task.specs.Policies.{selected}
use Rattle.fond_task.specs.Solutions.{IsSolution}
use Rattle.fond_policy.specs.declared.item.Item.{Item}
use Rattle.fond_policy.specs.Parts.{IsRightCover}

-- the rules of a correct policy certificate with a cover are a solution
abbrev pub CoversAreSolutions : Type 0
CoversAreSolutions = (task : Task) (layers : List (List CubeView)) (pairs : List Pair) (rules : List Rule) (items : List Item) (start : ℕ)
    → IsRightCover task layers pairs rules items start → IsSolution task (selected rules)
