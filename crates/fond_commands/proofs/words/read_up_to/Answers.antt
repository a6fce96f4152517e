use Rattle.std.proofs.Common.{◌≡◌, ◌∙◌, sym, arith}
use Rattle.std.proofs.lemmas.Fmt.{decimal_injective}
use Rattle.fond_commands.proofs.words.read_up_to.Goals as goal

pub returns-then-number-eq0 : goal.returns-then-number-eq0
returns-then-number-eq0 c = λ number is.
    let same : number ≡ c.in_ok-number.number = decimal_injective number c.in_ok-number.number (omega (arith, is.1, c.requires)) (omega (arith, c.if-number-eq0.true)) (sym is.2 ∙ sym c.bytes.ensures ∙ c.in_ok-number.ensures) in
    omega (arith, same, is.0, c.if-number-eq0.true)

pub returns-then-number-most : goal.returns-then-number-most
returns-then-number-most c = λ number is.
    let same : number ≡ c.in_ok-number.number = decimal_injective number c.in_ok-number.number (omega (arith, is.1, c.requires)) (omega arith) (sym is.2 ∙ sym c.bytes.ensures ∙ c.in_ok-number.ensures) in
    omega (arith, same, is.1, c.if-number-most.true)
