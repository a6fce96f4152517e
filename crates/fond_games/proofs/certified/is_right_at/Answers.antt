use Rattle.std.proofs.Common.{sym, subst}
use Rattle.fond_games.specs.declared.kind.Kind.{Kind}
use Rattle.fond_games.specs.Certified.{IsAbove, IsRightAt}
use Rattle.fond_games.proofs.Right.{unfair_right}
use Rattle.fond_games.proofs.certified.is_right_at.Goals as goal

pub returns-in-Unfair : goal.returns-in-Unfair
returns-in-Unfair c = λ is.
    let graph = c.args.graph.now in
    let table = c.args.table.now in
    let above = subst (λ n. IsAbove n c.greatest.result) c.level_of-level.ensures (c.is_above-in-Unfair.ensures is) in
    let right = unfair_right graph table c.args.node c.successors-nexts.result.now c.greatest.result c.successors-nexts.ensures c.greatest.ensures above in
    subst (λ (k : Kind). IsRightAt k graph table c.args.node) (sym c.in-Unfair.is) right
