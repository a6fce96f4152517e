use Rattle.std.proofs.Common.{◌≡◌, ◌+◌, ◌*◌, ◌∙◌, ◌<◌, ℕ, false, not, set, sym, ap, arith}
use Rattle.std.specs.Prelude.{◌&&◌}
use Rattle.std.proofs.lemmas.List.{get_or-set_same}
use Rattle.fond_state.specs.Words.{truth_in}
use Rattle.fond_matrix.specs.Rows.{clashes}
use Rattle.fond_matrix.specs.Rivals.{rival_at}
use Rattle.fond_matrix.proofs.Noted.{noted_none, noted_some}
use Rattle.fond_matrix.proofs.Opposed.{clash_row}
use Rattle.fond_matrix.proofs.rows.Rows.note.Goals as goal

pub returns-then-number-end-clause-noted : goal.returns-then-number-end-clause-noted
returns-then-number-end-clause-noted c =
    let rows = c.args.self.now in
    let clash = λ (k : ℕ). clash_row rows c.args.cube.now (64 * c.args.start + k) c.row-skip.result.1.now c.args.atom c.in-Some.sign (sym c.literal.ensures ∙ c.in-Some.is) c.row-skip.ensures.words in
    let before : (k : ℕ) → k < c.first_not_in.result → (clashes rows c.args.cube.now (64 * c.args.start + k) c.args.atom && not (truth_in c.args.twice.now k)) ≡ false
    = λ k lt. sym (ap (λ b. b && not (truth_in c.args.twice.now k)) (clash k)) ∙ c.first_not_in.ensures.before k lt in
    noted_none rows c.args.cube.now c.args.atom c.args.start c.args.count c.first_not_in.result c.args.twice.now c.first_not_in.ensures.within c.requires.twice before
    c.args.end (rival_at c.args.rivals.now c.args.atom) (omega (arith, c.if-number-end.true)) (omega (arith, c.if-rivals-atom.false)) c.requires.noted

pub returns-clause-noted : goal.returns-clause-noted
returns-clause-noted c =
    let rows = c.args.self.now in
    let place = c.first_not_in.result in
    let number = 64 * c.args.start + place in
    let clash = λ (k : ℕ). clash_row rows c.args.cube.now (64 * c.args.start + k) c.row-skip.result.1.now c.args.atom c.in-Some.sign (sym c.literal.ensures ∙ c.in-Some.is) c.row-skip.ensures.words in
    let before : (k : ℕ) → k < place → (clashes rows c.args.cube.now (64 * c.args.start + k) c.args.atom && not (truth_in c.args.twice.now k)) ≡ false
    = λ k lt. sym (ap (λ b. b && not (truth_in c.args.twice.now k)) (clash k)) ∙ c.first_not_in.ensures.before k lt in
    let inside : place < 64 * c.args.count = omega (arith, c.if-number-end.false, c.requires.end.1) in
    let here : rival_at (set c.args.rivals.now c.args.atom number) c.args.atom ≡ number = get_or-set_same c.args.rivals.now c.args.atom number 0 c.requires.within in
    noted_some rows c.args.cube.now c.args.atom c.args.start c.args.count place c.args.twice.now c.first_not_in.ensures.within c.requires.twice before
    c.args.end (rival_at (set c.args.rivals.now c.args.atom number) c.args.atom) here (omega (arith, here, c.if-number-end.false)) (omega (arith, c.requires.end.2)) inside
    (sym (ap (λ b. b && not (truth_in c.args.twice.now place)) (clash place)) ∙ c.first_not_in.ensures.found inside)
