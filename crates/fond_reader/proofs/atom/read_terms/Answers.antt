use Rattle.std.proofs.Common.{arith}
use Rattle.std.proofs.lemmas.Grind.{common_steps}
use Rattle.fond_tree.specs.declared.role.Role.TheVariants.{Term}
use Rattle.fond_tree.specs.FormFaults.{Fits}
use Rattle.fond_reader.specs.Bodies.{is_term}
use Rattle.fond_reader.proofs.Through.{at_start, next_fits, one_more, at_end}
use Rattle.fond_reader.proofs.atom.read_terms.Goals as goal

pub loop-tree-init : goal.loop-tree-init
loop-tree-init c = at_start is_term (Fits Term) c.args.trees.now _ c.new-terms.ensures c.requires

pub read_term-requires : goal.read_term-requires
read_term-requires c = next_fits is_term (Fits Term) c.args.trees.now c.loop-tree.tree-index c.tree-item.result _ (omega arith) c.tree-item.is c.loop-tree.invariant

pub loop-tree-preserved : goal.loop-tree-preserved
loop-tree-preserved c = one_more is_term (Fits Term) c.args.trees.now c.loop-tree.tree-index c.tree-item.result _ _ _ (omega arith) c.tree-item.is c.in_ok-push.ensures.ok c.loop-tree.invariant c.in_ok-read_term.ensures

pub returns : goal.returns
returns c = at_end is_term (Fits Term) c.args.trees.now _ _ (grind (arith, common_steps)) c.loop-tree.invariant
