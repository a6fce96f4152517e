use Rattle.std.proofs.Common.{arith}
use Rattle.std.proofs.lemmas.Grind.{common_steps}
use Rattle.fond_tree.specs.declared.role.Role.TheVariants.{Initial}
use Rattle.fond_tree.specs.FormFaults.{Fits}
use Rattle.fond_reader.specs.Bodies.{is_initial}
use Rattle.fond_reader.proofs.Through.{at_start, next_fits, one_more, at_end}
use Rattle.fond_reader.proofs.initial.read_initials.Goals as goal

pub loop-tree-init : goal.loop-tree-init
loop-tree-init c = at_start is_initial (Fits Initial) c.args.trees.now _ c.new-init.ensures c.requires

pub read_initial-requires : goal.read_initial-requires
read_initial-requires c = next_fits is_initial (Fits Initial) c.args.trees.now c.loop-tree.tree-index c.tree-item.result _ (omega arith) c.tree-item.is c.loop-tree.invariant

pub loop-tree-preserved : goal.loop-tree-preserved
loop-tree-preserved c = one_more is_initial (Fits Initial) c.args.trees.now c.loop-tree.tree-index c.tree-item.result _ _ _ (omega arith) c.tree-item.is c.in_ok-push.ensures.ok c.loop-tree.invariant c.in_ok-read_initial.ensures

pub returns : goal.returns
returns c = at_end is_initial (Fits Initial) c.args.trees.now _ _ (grind (arith, common_steps)) c.loop-tree.invariant
