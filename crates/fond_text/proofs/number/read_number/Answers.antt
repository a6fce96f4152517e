use Rattle.std.proofs.Common.{◌≡◌, ◌≢◌, ◌<◌, ◌^◌, ℕ, rules, sym, ◌∙◌}
use Rattle.std.specs.Fmt.{decimal}
use Rattle.fond_text.proofs.Numerals.{not_text, not_parsed, own_digits}
use Rattle.fond_text.proofs.number.read_number.Goals as goal

pub returns-in_err-ok : goal.returns-in_err-ok
returns-in_err-ok c = search (rules, not_text c.args.b.now)

pub returns-in_err-number : goal.returns-in_err-number
returns-in_err-number c =
    let same : c.in_ok-ok.field-0.now ≡ c.args.b.now = search rules in
    let none : (n : ℕ) → n < 2 ^ 64 → c.args.b.now ≢ decimal n =
    λ n small is. not_parsed _ _ _ _ same c.parse.ensures.value.0 n small is (sym c.ok-2.ensures.value ∙ c.in_err-number.was) in
    rw c.from_residual-in_err-number.ensures none

pub returns-else-eq : goal.returns-else-eq
returns-else-eq c n small is =
    let same : c.in_ok-ok.field-0.now ≡ c.args.b.now = search rules in
    let own : c.bytes.result.now ≡ c.args.b.now =
    c.bytes.ensures ∙ c.of.ensures ∙ sym (own_digits _ _ _ _ same c.parse.ensures.value.0 n small is _ (sym c.ok-2.ensures.value ∙ c.in_ok-number.was)) in
    search rules
