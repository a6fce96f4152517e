use Rattle.std.proofs.Common.{◌∙◌, ap, sym, eq-eqb}
use Rattle.std.specs.Prelude.{nat_eq}
use Rattle.std.specs.Int.{w64}
use Rattle.std.proofs.lemmas.Nat.Bits.{bit_at_set_same, bit_at_set_other, bit_at_clear_same, bit_at_clear_other}
use Rattle.fond_state.proofs.word.with_bit.Goals as goal

pub returns-then-v-clause-same : goal.returns-then-v-clause-same
returns-then-v-clause-same c = eq-eqb _ _ (bit_at_set_same w64 c.args.word c.args.place c.requires) ∙ sym c.if-v.true

pub returns-then-v-clause-other : goal.returns-then-v-clause-other
returns-then-v-clause-other c = λ k lt differs. ap (λ b. nat_eq b 1) (bit_at_set_other w64 c.args.word c.args.place c.requires k differs)

pub returns-else-v-clause-same : goal.returns-else-v-clause-same
returns-else-v-clause-same c = ap (λ b. nat_eq b 1) (bit_at_clear_same w64 c.args.word c.args.place c.requires) ∙ sym c.if-v.false

pub returns-else-v-clause-other : goal.returns-else-v-clause-other
returns-else-v-clause-other c = λ k lt differs. ap (λ b. nat_eq b 1) (bit_at_clear_other w64 c.args.word c.args.place c.requires k lt differs)
