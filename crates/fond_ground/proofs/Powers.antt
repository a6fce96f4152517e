-- Counting the outcomes of effects, up to a bound.
use Rattle.std.proofs.Common.{◌≡◌, ◌⊎◌, inl, inr, ℕ, zero, suc, ◌+◌, ◌*◌, ◌-◌, ◌^◌, ◌<◌, ◌≤◌, ◌∙◌, ◌&&◌, nat_le, Bool, true, false, List, [], ◌∷◌, length, map, min, refl, sym, ap, arith}
use Rattle.std.specs.List.{list_all}
use Rattle.std.proofs.lemmas.Bool.{cases_lt}
use Rattle.std.proofs.lemmas.Bool.Decides.{nat_tests}
use Rattle.std.proofs.Math.Nat.{mul_comm, pow-suc, pow-zero}
use Rattle.fond_text.specs.Lists.{concatenations}
use Rattle.fond_oneof.proofs.Lists.{length-pairs}
use Rattle.fond_ast.specs.Outcomes.{outcomes}
use Rattle.fond_ast.specs.declared.form.LEffect.{LEffect}
use Rattle.fond_ast.proofs.Bools.{and-both}
use Rattle.fond_ground.specs.Limits.{has_few}
use Rattle.fond_ground.proofs.Counts.{capped_product}

-- a capped product depends on each factor only up to the bound
pub capped_factors : (most a b p q : ℕ) → p ≡ min a most → q ≡ min b most → min (p * q) most ≡ min (a * b) most
capped_factors most a b p q p_is q_is =
    capped_product most a 1 q p (p_is ∙ ap (λ n. min n most) (let one : a ≡ a * 1 = omega arith in one))
    ∙ ap (λ n. min n most) (let swap : a * (1 * q) ≡ q * a = ap (λ n. a * n) (let one : 1 * q ≡ q = omega arith in one) ∙ mul_comm a q in swap)
    ∙ capped_product most b 1 a q (q_is ∙ ap (λ n. min n most) (let one : b ≡ b * 1 = omega arith in one))
    ∙ ap (λ n. min n most) (let back : b * (1 * a) ≡ a * b = ap (λ n. b * n) (let one : 1 * a ≡ a = omega arith in one) ∙ mul_comm b a in back)

-- concatenations of lists that all have the same number of lists, up to a bound
pub count_power : {A : Type 0} (most p : ℕ) (lists : List ℕ → List (List A)) (tuples : List (List ℕ)) → ((objects : List ℕ) → p ≡ min (length (lists objects)) most)
    → min (length (concatenations (map lists tuples))) most ≡ min (p ^ length tuples) most
count_power most p lists [] same = ap (λ n. min n most) (sym (pow-zero p))
count_power most p lists (objects ∷ tuples) same =
    let rest = concatenations (map lists tuples) in
    ap (λ n. min n most) (length-pairs (lists objects) rest)
    ∙ sym (capped_factors most (length (lists objects)) (length rest) p (min (length rest) most) (same objects) refl)
    ∙ ap (λ n. min (p * n) most) (count_power most p lists tuples same)
    ∙ ap (λ n. min n most) (mul_comm p (min (p ^ length tuples) most))
    ∙ capped_product most (p ^ length tuples) 1 p (min (p ^ length tuples) most) (ap (λ n. min n most) (let one : p ^ length tuples ≡ p ^ length tuples * 1 = omega arith in one))
    ∙ ap (λ n. min n most) (ap (λ n. p ^ length tuples * n) (let one : 1 * p ≡ p = omega arith in one) ∙ sym (pow-suc p (length tuples)))

-- a power of at least 2 is at least a power of 2
power_grows : (b k : ℕ) → 2 ^ k ≤ (b + 2) ^ k
power_grows b zero = let none = pow-zero (b + 2) in omega (arith, none)
power_grows b (suc k) =
    let before = power_grows b k in
    let two = pow-suc 2 k in
    let more = pow-suc (b + 2) k in
    let spread : (b + 2) ^ k * (b + 2) ≡ (b + 2) ^ k * b + (b + 2) ^ k * 2 = grind arith in
    omega (arith, before, two, more, spread)

-- a power of at least 2 is no less with more factors
power_more : (b k n : ℕ) → (b + 2) ^ k ≤ (b + 2) ^ (n + k)
power_more b k zero = let same = ap (λ j. (b + 2) ^ j) (let none : 0 + k ≡ k = omega arith in none) in omega (arith, same)
power_more b k (suc n) =
    let before = power_more b k n in
    let same = ap (λ j. (b + 2) ^ j) (let next : suc n + k ≡ suc (n + k) = omega arith in next) in
    let more = pow-suc (b + 2) (n + k) in
    let spread : (b + 2) ^ (n + k) * (b + 2) ≡ (b + 2) ^ (n + k) * b + (b + 2) ^ (n + k) * 2 = grind arith in
    omega (arith, before, same, more, spread)

-- from 9 factors on, a power no longer changes up to 257
at_nine : (p n : ℕ) → min (p ^ (n + 9)) 257 ≡ min (p ^ 9) 257
at_nine zero n = ap (λ k. min (0 ^ k) 257) (let next : n + 9 ≡ suc (n + 8) = omega arith in next) ∙ ap (λ x. min x 257) (pow-suc 0 (n + 8) ∙ (let nought : 0 ^ (n + 8) * 0 ≡ 0 = omega arith in nought))
at_nine (suc zero) n = ap (λ x. min x 257) (one (n + 9))
  where
    one : (k : ℕ) → 1 ^ k ≡ 1
    one zero = refl
    one (suc k) = pow-suc 1 k ∙ (let before = one k in omega (arith, before))
at_nine (suc (suc b)) n =
    let least : 512 ≤ (b + 2) ^ 9 = power_grows b 9 in
    let more = power_more b 9 n in
    let same : suc (suc b) ≡ b + 2 = omega arith in
    ap (λ p. min (p ^ (n + 9)) 257) same ∙ (let full : min ((b + 2) ^ (n + 9)) 257 ≡ min ((b + 2) ^ 9) 257 = omega (arith, least, more) in full) ∙ ap (λ p. min (p ^ 9) 257) (sym same)

-- no more than 9 factors count
pub nine_factors : (p n : ℕ) → min (p ^ min n 9) 257 ≡ min (p ^ n) 257
nine_factors p n = elim (cases_lt n 9) [
  | inl less ↦ ap (λ k. min (p ^ k) 257) (let all : min n 9 ≡ n = omega arith in all)
  | inr more ↦ ap (λ k. min (p ^ k) 257) (let nine : min n 9 ≡ 9 = omega arith in nine) ∙ sym (at_nine p (n - 9)) ∙ ap (λ k. min (p ^ k) 257) (let whole : n - 9 + 9 ≡ n = omega arith in whole)
]

-- a number of factors that is counted up to a bound of at least 9
pub counted_factors : (p n most : ℕ) → 9 ≤ most → min (p ^ min n most) 257 ≡ min (p ^ n) 257
counted_factors p n most large =
    sym (nine_factors p (min n most)) ∙ ap (λ k. min (p ^ k) 257) (let same : min (min n most) 9 ≡ min n 9 = omega (arith, large) in same) ∙ nine_factors p n

each_passes : {X : Type 0} (test : X → Bool) → ((x : X) → test x ≡ true) → (xs : List X) → list_all test xs ≡ true
each_passes test each [] = refl
each_passes test each (x ∷ xs) = and-both (test x) (list_all test xs) (each x) (each_passes test each xs)

-- a test that is the same for all items of a list that has one
alike : {X : Type 0} (test : X → Bool) (b : Bool) → ((x : X) → test x ≡ b) → (xs : List X) → 0 < length xs → b ≡ list_all test xs
alike test b each [] some = absurd (omega arith)
alike test true each (x ∷ xs) some = sym (each_passes test each (x ∷ xs))
alike test false each (x ∷ xs) some = ap (λ a. a && list_all test xs) (sym (each x))

-- a number that is counted up to 257 is at most 256 if its count is
capped_test : (n count : ℕ) → count ≡ min n 257 → nat_le n 256 ≡ nat_le count 256
capped_test n count is = by (cases_lt 256 n)
  where
    by : (256 < n) ⊎ (n ≤ 256) → nat_le n 256 ≡ nat_le count 256
    by (inl over) = let more : nat_le n 256 ≡ false = grind (arith, nat_tests) in let full : nat_le count 256 ≡ false = (let same : 256 < count = omega (arith, is, over) in grind (arith, nat_tests)) in more ∙ sym full
    by (inr within) = let few : nat_le n 256 ≡ true = grind (arith, nat_tests) in let same : nat_le count 256 ≡ true = (let less : count ≤ 256 = omega (arith, is, within) in grind (arith, nat_tests)) in few ∙ sym same

-- the count of an effect tells whether it has few outcomes for all lists of objects
pub counted_few : (effect : LEffect) (count : ℕ) → ((env : List ℕ) → count ≡ min (length (outcomes env effect)) 257) → (lists : List (List ℕ)) → 0 < length lists → nat_le count 256 ≡ list_all (has_few effect) lists
counted_few effect count is lists some = alike (has_few effect) (nat_le count 256) (λ objects. capped_test (length (outcomes objects effect)) count (is objects)) lists some
