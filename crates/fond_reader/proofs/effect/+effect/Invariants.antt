use Rattle.std.proofs.Common.{◌+◌, ◌*◌, drop}
use Rattle.fond_tree.specs.declared.role.Role.TheVariants.{Effect}
use Rattle.fond_tree.specs.FormFaults.{Fits}
use Rattle.fond_reader.specs.Bodies.{is_effect}
use Rattle.fond_reader.proofs.Through.{Through}
use Rattle.fond_reader.proofs.Weights.{weight, weights}
use Rattle.fond_reader.proofs.effect.+effect.Given as goal

abbrev pub decreases-read_effect : goal.decreases-read_effect
decreases-read_effect l = 2 * weight l.tree.now

abbrev pub decreases-read_boxed : goal.decreases-read_boxed
decreases-read_boxed l = 2 * weight l.tree.now + 1

abbrev pub decreases-put_effects : goal.decreases-put_effects
decreases-put_effects l = 2 * weights l.trees.now + 2

abbrev pub decreases-read_effects : goal.decreases-read_effects
decreases-read_effects l = 2 * weights l.trees.now + 3

abbrev pub decreases-read_quantified : goal.decreases-read_quantified
decreases-read_quantified l = 2 * weights l.trees.now + 3

abbrev pub decreases-read_conditional : goal.decreases-read_conditional
decreases-read_conditional l = 2 * weights l.trees.now + 3

-- the effects so far were read, and the trees that are left fit
abbrev pub invariant-put_effects-loop-tree : goal.invariant-put_effects-loop-tree
invariant-put_effects-loop-tree l = Through is_effect (Fits Effect) l.trees (drop l.tree-index l.trees) l.parts.items
