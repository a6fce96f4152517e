use Rattle.std.proofs.Common.{◌≡◌, ◌+◌, length, subst, arith}
use Rattle.fond_games.specs.Levels.{IsRound}
use Rattle.fond_games.proofs.Raised.{zeros-few, one_more, all_levels}
use Rattle.fond_games.proofs.levels.fill.Goals as goal

pub loop-round-init : goal.loop-round-init
loop-round-init c = record { so_far = c.requires.first; few = let few = zeros-few c.args.table.now.items in omega (arith, few, c.requires.first.long, c.requires.counted) }

pub returns-then-not-raise : goal.returns-then-not-raise
returns-then-not-raise c =
    let kinds = c.args.kinds.now in
    let graph = c.args.graph.now in
    let most = c.loop-round.round + 1 in
    let next : c.loop-round.round + 2 ≡ most + 1 = omega arith in
    let round = subst (λ n. IsRound kinds graph n c.loop-round.table.items c.raise.new.table.items c.raise.result (length graph)) next c.raise.ensures in
    all_levels kinds graph c.requires.known most (omega arith) c.loop-round.table.items c.loop-round.invariant.so_far c.raise.new.table.items c.raise.result round c.if-not-raise.true

pub loop-round-preserved : goal.loop-round-preserved
loop-round-preserved c =
    let kinds = c.args.kinds.now in
    let graph = c.args.graph.now in
    let most = c.loop-round.round + 1 in
    let next : c.loop-round.round + 2 ≡ most + 1 = omega arith in
    let round = subst (λ n. IsRound kinds graph n c.loop-round.table.items c.raise.new.table.items c.raise.result (length graph)) next c.raise.ensures in
    record {
      so_far = one_more kinds graph c.requires.known most (omega arith) c.loop-round.table.items c.loop-round.invariant.so_far c.raise.new.table.items c.raise.result round;
      few = let less = c.raise.ensures.fewer c.if-not-raise.false in omega (arith, less, c.loop-round.invariant.few);
    }
