use Rattle.std.proofs.Common.{◌+◌, arith}
use Rattle.fond_games.proofs.Touring.{follows_inner}
use Rattle.fond_games.proofs.tour.follows.Goals as goal

pub returns-then-walk-i-2 : goal.returns-then-walk-i-2
returns-then-walk-i-2 c = λ is. let less = c.loop-i-test.true in let more = c.if-i-walk.false in follows_inner c.args.walk.now c.loop-i.i c.args.at c.args.node c.args.after c.if-walk-i.true (c.loop-i.i + 1) (omega arith) (omega (arith, less, more)) c.if-walk-i-2.true
