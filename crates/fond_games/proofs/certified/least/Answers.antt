use Rattle.std.proofs.Common.{List, ℕ, get_or, take, sym, subst}
use Rattle.std.proofs.lemmas.List.{take_more}
use Rattle.fond_games.specs.Certified.{IsLeast}
use Rattle.fond_games.proofs.Right.{least_more}
use Rattle.fond_games.proofs.certified.least.Goals as goal

pub loop-node-preserved : goal.loop-node-preserved
loop-node-preserved c =
    let nodes = c.args.nodes.now in
    let table = c.args.table.now in
    let at = c.loop-node.node-index in
    let node = get_or nodes at 0 in
    let more = least_more table (take at nodes) node c.loop-node.least c.level_of.result c.lesser-least.result c.level_of.ensures c.loop-node.invariant c.lesser-least.ensures in
    subst (λ (xs : List ℕ). IsLeast xs table c.lesser-least.result) (sym (take_more nodes at 0 c.loop-node-test.true)) more
