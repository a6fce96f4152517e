use Rattle.std.proofs.Common.{◌∙◌, ap, sym, arith}
use Rattle.fond_match.proofs.Joined.{found_at, found_nowhere}
use Rattle.fond_match.proofs.matcher.first_of.Goals as goal

pub returns-then-lies_in : goal.returns-then-lies_in
returns-then-lies_in g c =
    let lies = g.Q.Query.lies c.args.query.now in
    let passes = ap lies (sym c.cube.ensures) ∙ sym c.if-lies_in.ensures in
    sym (found_at (λ item. lies (g.T.HasCube.cube item)) c.args.items.now c.loop-at.at c.loop-at.invariant c.index-items-at.result c.loop-at-test.true c.index-items-at.is passes)

pub returns : goal.returns
returns g c = sym (found_nowhere (λ item. g.Q.Query.lies c.args.query.now (g.T.HasCube.cube item)) c.args.items.now c.loop-at.at c.loop-at.invariant (omega (arith, c.loop-at-test.false)))
