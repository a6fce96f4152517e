use Rattle.std.proofs.Common.{arith}
use Rattle.std.proofs.lemmas.Grind.{common_steps}
use Rattle.std.specs.Option.{option_copied}
use Rattle.fond_reader.proofs.Pushed.{push_start, push_next, push_more, push_end}
use Rattle.fond_reader.proofs.typed.push_leaves.Goals as goal

pub loop-leaf-init : goal.loop-leaf-init
loop-leaf-init c = push_start c.args.sort (option_copied c.args.kind) c.args.leaves.now _ c.requires.leaves

pub read_declared-requires-clause-leaf : goal.read_declared-requires-clause-leaf
read_declared-requires-clause-leaf c = push_next c.args.sort (option_copied c.args.kind) c.args.leaves.now _ c.loop-leaf.leaf-index c.leaf-item.result _ (omega arith) c.leaf-item.is c.loop-leaf.invariant

pub loop-leaf-preserved : goal.loop-leaf-preserved
loop-leaf-preserved c =
    push_more c.args.sort (option_copied c.args.kind) c.args.leaves.now _ c.loop-leaf.leaf-index c.leaf-item.result _ _ _ (omega arith) c.leaf-item.is c.in_ok-push.ensures.ok c.loop-leaf.invariant
    c.in_ok-read_declared.ensures

pub returns : goal.returns
returns c = push_end c.args.sort (option_copied c.args.kind) c.args.leaves.now _ _ _ (grind (arith, common_steps)) c.loop-leaf.invariant
