use Rattle.fond_games.specs.Keeping.{KeptAt}
use Rattle.fond_games.proofs.Keeping.{one_kept}
use Rattle.fond_games.proofs.kept.kept.Goals as goal

pub loop-node-preserved : goal.loop-node-preserved
loop-node-preserved c =
    let before = c.loop-node.invariant in
    let more = one_kept (KeptAt c.args.kinds.now c.args.graph.now c.args.table.now) c.loop-node.edges c.push.new.self c.in_ok-kept_at.field-0 c.loop-node.node before.long c.in_ok-push.ensures.ok before.each c.in_ok-kept_at.ensures in
    record { long = more.0; each = more.1 }
