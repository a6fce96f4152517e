use Rattle.std.proofs.Common.{arith, length, ◌<◌}
use Rattle.fond_games.proofs.Raised.{round_by, round_kept}
use Rattle.fond_games.proofs.levels.raise.Goals.{then-raise_at, else-raise_at}
use Rattle.fond_games.proofs.levels.raise.Goals as goal

pub loop-node-preserved : goal.loop-node-preserved
loop-node-preserved c =
    let kinds = c.args.kinds.now in
    let graph = c.args.graph.now in
    let first = c.args.table.now.items in
    let table = c.loop-node.table.items in
    let before = c.loop-node.invariant in
    let there : c.loop-node.node < length table = omega (arith, before.long, c.requires.long, c.requires.counted) in
    elim c.if-raise_at.branch [
      | then-raise_at w ↦ round_by kinds graph c.args.level first table c.raise_at.new.table.items c.loop-node.is_raised c.if-raise_at.is_raised c.loop-node.node before there c.requires.some w.is_raised-is (c.raise_at.ensures.raised w.if-raise_at.true)
      | else-raise_at w ↦ round_kept kinds graph c.args.level first table c.raise_at.new.table.items c.loop-node.is_raised c.if-raise_at.is_raised c.loop-node.node before w.is_raised-is (c.raise_at.ensures.kept w.if-raise_at.false)
    ]
