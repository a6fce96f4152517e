use Rattle.std.proofs.Common.{◌≡◌, ◌<◌, ◌+◌, true, ap, ◌∙◌, length, map, take, arith}
use Rattle.fond_ast.specs.declared.names.Term.{Term}
use Rattle.fond_text.specs.Lists.{each_passes}
use Rattle.fond_types.specs.Meanings.{meanings}
use Rattle.fond_types.specs.Resolves.{is_pattern_term}
use Rattle.fond_types.proofs.Passing.{passes_next}
use Rattle.fond_types.proofs.PlaceLemmas.{got_if}
use Rattle.fond_types.proofs.RangeLemmas.{got_some}
use Rattle.fond_types.proofs.patterns.placed_terms.Goals as goal

pub loop-i-preserved : goal.loop-i-preserved
loop-i-preserved c =
    let terms = c.args.terms.now in
    let i = c.loop-i.i in
    let test = is_pattern_term (meanings c.args.table.now) terms in
    let low : i < length terms = omega arith in
    let term = got_some terms i low in
    ap (each_passes (map test (take (i + 1) terms))) c.in_ok-push.ensures.ok
    ∙ passes_next test terms i term.0 c.loop-i.numbers c.numbered_at.result term.1 c.loop-i.invariant (got_if (λ (one : Term). test one c.numbered_at.result ≡ true) _ term.0 term.1 c.numbered_at.ensures)
