use Rattle.std.proofs.Common.{inl, inr, ⊎_elim, ◌≡◌, List, ℕ, get_or, take, sym, subst, arith}
use Rattle.std.specs.Prelude.{◌⊎◌}
use Rattle.std.proofs.lemmas.Bool.{cases_lt}
use Rattle.std.proofs.lemmas.List.{take_more}
use Rattle.fond_games.specs.Certified.{IsHighest}
use Rattle.fond_games.proofs.Right.{highest_more}
use Rattle.fond_games.proofs.certified.greatest.Goals as goal

pub loop-node-preserved : goal.loop-node-preserved
loop-node-preserved c =
    let nodes = c.args.nodes.now in
    let table = c.args.table.now in
    let at = c.loop-node.node-index in
    let node = get_or nodes at 0 in
    let own = c.level_of-own.result in
    let bound = c.loop-node.greatest in
    let new = c.max-greatest.result in
    let either : (new ≡ own) ⊎ (new ≡ bound) = ⊎_elim (λ less. inr (omega (arith, less, c.max-greatest.ensures))) (λ more. inl (omega (arith, more, c.max-greatest.ensures))) (cases_lt own bound) in
    let more = highest_more table (take at nodes) node bound own new c.level_of-own.ensures c.loop-node.invariant (omega (arith, c.if-own-eq0.false)) (omega (arith, c.max-greatest.ensures)) (omega (arith, c.max-greatest.ensures)) either in
    subst (λ (xs : List ℕ). IsHighest xs table new) (sym (take_more nodes at 0 c.loop-node-test.true)) more
