use Rattle.std.proofs.Common.{◌+◌, ◌*◌, drop}
use Rattle.fond_tree.specs.declared.role.Role.TheVariants.{Condition}
use Rattle.fond_tree.specs.FormFaults.{Fits}
use Rattle.fond_reader.specs.Bodies.{is_condition}
use Rattle.fond_reader.proofs.Through.{Through}
use Rattle.fond_reader.proofs.Weights.{weight, weights}
use Rattle.fond_reader.proofs.condition.+condition.Given as goal

abbrev pub decreases-read_condition : goal.decreases-read_condition
decreases-read_condition l = 2 * weight l.tree.now

abbrev pub decreases-read_boxed : goal.decreases-read_boxed
decreases-read_boxed l = 2 * weight l.tree.now + 1

abbrev pub decreases-put_conditions : goal.decreases-put_conditions
decreases-put_conditions l = 2 * weights l.trees.now + 2

abbrev pub decreases-read_conditions : goal.decreases-read_conditions
decreases-read_conditions l = 2 * weights l.trees.now + 3

abbrev pub decreases-read_only : goal.decreases-read_only
decreases-read_only l = 2 * weights l.trees.now + 3

abbrev pub decreases-read_both : goal.decreases-read_both
decreases-read_both l = 2 * weights l.trees.now + 3

abbrev pub decreases-read_quantified : goal.decreases-read_quantified
decreases-read_quantified l = 2 * weights l.trees.now + 3

-- the conditions so far were read, and the trees that are left fit
abbrev pub invariant-put_conditions-loop-tree : goal.invariant-put_conditions-loop-tree
invariant-put_conditions-loop-tree l = Through is_condition (Fits Condition) l.trees (drop l.tree-index l.trees) l.parts.items
