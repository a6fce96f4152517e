-- The rules of a correct policy certificate with a cover are a solution.
use Rattle.std.proofs.Common.{ℕ, List}
use Rattle.fond_task.specs.declared.task.Task.{Task}
use Rattle.fond_task.specs.declared.rule.Pair.{Pair}
use Rattle.fond_task.specs.declared.rule.Rule.{Rule}
use Rattle.fond_task.specs.Layers.{CubeView}
use Rattle.fond_task.specs.Policies.{selected}
use Rattle.fond_task.specs.Solutions.{IsSolution}
use Rattle.fond_task.proofs.Ranks.{solution_by}
use Rattle.fond_policy.specs.declared.item.Item.{Item}
use Rattle.fond_policy.proofs.Closed.{items_ruled}
use Rattle.fond_policy.specs.Parts.{IsRightCover}

pub covers_solve : (task : Task) (layers : List (List CubeView)) (pairs : List Pair) (rules : List Rule) (items : List Item) (start : ℕ) → IsRightCover task layers pairs rules items start → IsSolution task (selected rules)
covers_solve task layers pairs rules items start right = solution_by task pairs rules right.sure.rules_sure (items_ruled task rules items start right.items_sure right.starts)
