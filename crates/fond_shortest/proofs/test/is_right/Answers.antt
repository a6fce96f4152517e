use Rattle.std.proofs.Common.{subst}
use Rattle.fond_best.specs.Ratings.{IsRating}
use Rattle.fond_shortest.proofs.Small.{good}
use Rattle.fond_shortest.proofs.test.is_right.Goals as goal

pub returns-in-Least : goal.returns-in-Least
returns-in-Least c = λ _.
    good c.args.t.now c.args.cert.now (c.does_belong.ensures.0 c.if-not-does_belong.false) c.in-Least.rank
    (subst (IsRating c.args.t.now c.args.cert.now) c.in-Least.is c.in_ok-rate.ensures) (c.are_ranks.ensures c.if-not-are_ranks.false)
