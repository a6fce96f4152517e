-- Sums and products up to a greatest number.
use Rattle.std.proofs.Common.{◌≡◌, ◌∙◌, ℕ, zero, suc, ◌*◌, ◌≤◌, inl, inr, min, ap, arith}
use Rattle.std.proofs.Math.Nat.{mul_assoc, mul_comm}
use Rattle.std.proofs.lemmas.Bool.{cases_lt}

-- a product up to a greatest number depends on a factor only up to that number
capped_product : (most a b : ℕ) → min (a * min b most) most ≡ min (a * b) most
capped_product most zero b = omega arith
capped_product most (suc a) b = elim (cases_lt b most) [
  | inl less ↦ ap (λ n. min (suc a * n) most) (let all : min b most ≡ b = omega arith in all)
  | inr more ↦
      (let all : min b most ≡ most = omega arith in
      let large : most ≤ suc a * b = grind arith in
      let same : most ≤ suc a * most = grind arith in
      ap (λ n. min (suc a * n) most) all ∙ (let both : min (suc a * most) most ≡ min (suc a * b) most = omega arith in both))
]

-- one more factor is counted
pub counted_product : (most all part rest count next : ℕ) → count ≡ min part most → next ≡ min (all * count) most → min (next * rest) most ≡ min (all * (part * rest)) most
counted_product most all part rest count next count_is next_is =
    ap (λ n. min (n * rest) most) (next_is ∙ ap (λ n. min (all * n) most) count_is ∙ capped_product most all part)
    ∙ ap (λ n. min n most) (mul_comm (min (all * part) most) rest) ∙ capped_product most rest (all * part)
    ∙ ap (λ n. min n most) (mul_comm rest (all * part) ∙ mul_assoc all part rest)
