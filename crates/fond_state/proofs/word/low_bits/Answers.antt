use Rattle.std.proofs.Common.{◌≡◌, ℕ, ◌-◌, ◌/◌, ◌^◌, ◌∙◌, min, ap, arith, eq-eqb}
use Rattle.std.specs.Prelude.{nat_eq}
use Rattle.std.proofs.lemmas.Nat.Bits.{ones_shr, bit_at_ones, bit_at_ones_above}
use Rattle.fond_state.specs.Words.{is_set}
use Rattle.fond_state.proofs.word.low_bits.Goals as goal

-- the highest bits of a word are shifted out
shifted : (count taken : ℕ) → taken ≡ min count 64 → (2 ^ 64 - 1) / 2 ^ (64 - taken) ≡ 2 ^ taken - 1
shifted count taken is = ones_shr 64 (64 - taken) (omega arith) ∙ ap (λ k. 2 ^ k - 1) (omega (arith, is))

pub returns-clause-below : goal.returns-clause-below
returns-clause-below c = λ k lt below.
    ap (λ w. is_set w k) (shifted c.args.count c.min.result c.min.ensures) ∙ eq-eqb _ _ (bit_at_ones c.min.result k (omega (arith, lt, below, c.min.ensures)))

pub returns-clause-above : goal.returns-clause-above
returns-clause-above c = λ k above.
    ap (λ w. is_set w k) (shifted c.args.count c.min.result c.min.ensures) ∙ ap (λ b. nat_eq b 1) (bit_at_ones_above c.min.result k (omega (arith, above, c.min.ensures)))
