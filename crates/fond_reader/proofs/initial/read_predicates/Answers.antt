use Rattle.std.proofs.Common.{arith}
use Rattle.std.proofs.lemmas.Grind.{common_steps}
use Rattle.fond_tree.specs.declared.role.Role.TheVariants.{Predicate}
use Rattle.fond_tree.specs.FormFaults.{Fits}
use Rattle.fond_reader.specs.Files.{is_declared}
use Rattle.fond_reader.proofs.Through.{at_start, next_fits, one_more, at_end}
use Rattle.fond_reader.proofs.initial.read_predicates.Goals as goal

pub loop-tree-init : goal.loop-tree-init
loop-tree-init c = at_start is_declared (Fits Predicate) c.args.trees.now _ c.new-predicates.ensures c.requires

pub read_predicate-requires : goal.read_predicate-requires
read_predicate-requires c = next_fits is_declared (Fits Predicate) c.args.trees.now c.loop-tree.tree-index c.tree-item.result _ (omega arith) c.tree-item.is c.loop-tree.invariant

pub loop-tree-preserved : goal.loop-tree-preserved
loop-tree-preserved c = one_more is_declared (Fits Predicate) c.args.trees.now c.loop-tree.tree-index c.tree-item.result _ _ _ (omega arith) c.tree-item.is c.in_ok-push.ensures.ok c.loop-tree.invariant c.in_ok-read_predicate.ensures

pub returns : goal.returns
returns c = at_end is_declared (Fits Predicate) c.args.trees.now _ _ (grind (arith, common_steps)) c.loop-tree.invariant
