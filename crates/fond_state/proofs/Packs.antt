-- Words are what their truth values pack to.
use Rattle.std.proofs.Common.{◌≡◌, ℕ, zero, suc, ◌+◌, ◌-◌, ◌*◌, ◌/◌, ◌%◌, ◌<◌, ◌≤◌, ◌^◌, min, List, [], ◌∷◌, Bool, true, false, length, take, drop, refl, sym, ap, ◌∙◌, ⊎_elim, arith, eq-eqb}
use Rattle.std.specs.Prelude.{nat_eq, slice_index_or}
use Rattle.std.specs.Int.{bit_at}
use Rattle.std.proofs.lemmas.Bool.{cases_lt, false≢true}
use Rattle.std.proofs.lemmas.List.{drop_more, drop_all}
use Rattle.std.proofs.lemmas.Nat.{shr-shr}
use Rattle.std.proofs.lemmas.Nat.Bits.{bit_at_lowest, bit_at-suc, bit_at-zero, bit_at-lt, bit_at_above, same_from_bits}
use Rattle.fond_state.specs.Words.{is_set, truth_in, truths_from, words_for, one_if, number_of, pack, packed, HasNoMore}
use Rattle.fond_state.proofs.Words.{one_or_zero, word_of, place_of, length-truths_from}

-- the lowest bits of a number
unfoldable bits_of : ℕ → ℕ → List Bool
bits_of w zero = []
bits_of w (suc c) = is_set w 0 ∷ bits_of (w / 2) c

lowest : (w : ℕ) → one_if (is_set w 0) + 2 * (w / 2) ≡ w
lowest w = ⊎_elim
    (λ one. let is : is_set w 0 ≡ true = eq-eqb _ _ one in let v : one_if (is_set w 0) ≡ 1 = ap one_if is in let low = bit_at_lowest w in omega (arith, v, low, one))
    (λ none. let is : is_set w 0 ≡ false = ap (λ b. nat_eq b 1) none in let v : one_if (is_set w 0) ≡ 0 = ap one_if is in let low = bit_at_lowest w in omega (arith, v, low, none))
    (one_or_zero (bit_at w 0) (bit_at-lt w 0))

-- a number is that of its lowest bits, if it has no others
number_bits : (c w : ℕ) → ((i : ℕ) → c ≤ i → bit_at w i ≡ 0) → number_of (bits_of w c) ≡ w
unfolding number_of bits_of
number_bits zero w none = same_from_bits 0 w (λ i. bit_at-zero i ∙ sym (none i (omega arith)))
number_bits (suc c) w none =
    let rest = number_bits c (w / 2) (λ i le. sym (bit_at-suc w i) ∙ none (suc i) (omega (arith, le))) in
    ap (λ n. one_if (is_set w 0) + 2 * n) rest ∙ lowest w

module _ (words : List ℕ) where
  abbrev word : ℕ → ℕ
  word k = slice_index_or words k 0

  truth_at_word : (k j : ℕ) → j < 64 → truth_in words (64 * k + j) ≡ is_set (word k) j
  truth_at_word k j lt = ap (λ i. is_set (word i) ((64 * k + j) % 64)) (word_of k j lt) ∙ ap (λ i. is_set (word k) i) (place_of k j lt)

  -- truth values within one word are bits of it
  truths_in_word : (k c p : ℕ) → p + c ≤ 64 → truths_from words (64 * k + p) c ≡ bits_of (word k / 2 ^ p) c
  unfolding truths_from bits_of
  truths_in_word k zero p le = refl
  truths_in_word k (suc c) p le =
      let head : truth_in words (64 * k + p) ≡ is_set (word k / 2 ^ p) 0 = truth_at_word k p (omega (arith, le)) ∙ ap (λ b. nat_eq b 1) (sym (bit_at_lowest (word k / 2 ^ p))) in
      let next : suc (64 * k + p) ≡ 64 * k + suc p = omega arith in
      let halves : word k / 2 ^ (p + 1) ≡ word k / 2 ^ p / 2 = sym (shr-shr (word k) p 1) in
      let plus : p + 1 ≡ suc p = omega arith in
      let tail : truths_from words (suc (64 * k + p)) c ≡ bits_of (word k / 2 ^ p / 2) c
      = ap (λ a. truths_from words a c) next ∙ truths_in_word k c (suc p) (omega (arith, le)) ∙ ap (λ e. bits_of (word k / 2 ^ e) c) (sym plus) ∙ ap (λ w. bits_of w c) halves in
      ap (λ b. b ∷ truths_from words (suc (64 * k + p)) c) head ∙ ap (λ bs. is_set (word k / 2 ^ p) 0 ∷ bs) tail

  take_truths : (c at r : ℕ) → take c (truths_from words at r) ≡ truths_from words at (min c r)
  unfolding truths_from
  take_truths zero at r = let none : 0 ≡ min 0 r = omega arith in ap (truths_from words at) none
  take_truths (suc c) at zero = let none : 0 ≡ min (suc c) 0 = omega arith in ap (truths_from words at) none
  take_truths (suc c) at (suc r) = let more : suc (min c r) ≡ min (suc c) (suc r) = omega arith in
      ap (λ bs. truth_in words at ∷ bs) (take_truths c (suc at) r) ∙ ap (truths_from words at) more

  drop_truths : (c at r : ℕ) → drop c (truths_from words at r) ≡ truths_from words (at + c) (r - c)
  unfolding truths_from
  drop_truths zero at r = let here : at ≡ at + 0 = omega arith in let all : r ≡ r - 0 = omega arith in ap (λ a. truths_from words a r) here ∙ ap (truths_from words (at + 0)) all
  drop_truths (suc c) at zero = let none : 0 ≡ 0 - suc c = omega arith in ap (truths_from words (at + suc c)) none
  drop_truths (suc c) at (suc r) = let there : suc at + c ≡ at + suc c = omega arith in let rest : r - c ≡ suc r - suc c = omega arith in
      drop_truths c (suc at) r ∙ ap (λ a. truths_from words a (r - c)) there ∙ ap (truths_from words (at + suc c)) rest

  module _ (n : ℕ) (none : HasNoMore n words) (small : (k : ℕ) → word k < 2 ^ 64) where
    no_bit_past : (k r i : ℕ) → r ≡ n - 64 * k → min 64 r ≤ i → bit_at (word k) i ≡ 0
    no_bit_past k r i left le = ⊎_elim
        (λ lt. ⊎_elim
        (λ one. absurd (false≢true (sym (none (64 * k + i) (omega (arith, left, le, lt))) ∙ truth_at_word k i lt ∙ eq-eqb _ _ one)))
        (λ zero_. zero_)
        (one_or_zero (bit_at (word k) i) (bit_at-lt (word k) i)))
        (λ past. bit_at_above (word k) 64 i (small k) past)
        (cases_lt i 64)

    packed_from : (m k r : ℕ) → k + m ≡ length words → r ≡ n - 64 * k → m ≡ words_for r → pack m (truths_from words (64 * k) r) ≡ drop k words
    unfolding pack truths_from
    packed_from zero k r long left count = sym (drop_all k words (omega (arith, long)))
    packed_from (suc m) k r long left count =
        let first : truths_from words (64 * k) (min 64 r) ≡ bits_of (word k / 2 ^ 0) (min 64 r)
        = (let here : 64 * k ≡ 64 * k + 0 = omega arith in ap (λ a. truths_from words a (min 64 r)) here) ∙ truths_in_word k (min 64 r) 0 (omega arith) in
        let whole : word k / 2 ^ 0 ≡ word k = omega arith in
        let head : number_of (take 64 (truths_from words (64 * k) r)) ≡ word k
        = ap number_of (take_truths 64 (64 * k) r ∙ first ∙ ap (λ w. bits_of w (min 64 r)) whole) ∙ number_bits (min 64 r) (word k) (λ i le. no_bit_past k r i left le) in
        let next : 64 * k + 64 ≡ 64 * (k + 1) = omega arith in
        let tail : pack m (drop 64 (truths_from words (64 * k) r)) ≡ drop (k + 1) words
        = ap (pack m) (drop_truths 64 (64 * k) r ∙ ap (λ a. truths_from words a (r - 64)) next) ∙ packed_from m (k + 1) (r - 64) (omega (arith, long)) (omega (arith, left)) (omega (arith, count)) in
        ap (λ w. w ∷ pack m (drop 64 (truths_from words (64 * k) r))) head ∙ ap (λ ws. word k ∷ ws) tail ∙ sym (drop_more words k 0 (omega (arith, long)))

    pub words_packed : length words ≡ words_for n → packed (truths_from words 0 n) ≡ words
    words_packed long =
        let counts : words_for (length (truths_from words 0 n)) ≡ words_for n = ap words_for (length-truths_from words 0 n) in
        ap (λ m. pack m (truths_from words 0 n)) counts ∙ packed_from (words_for n) 0 n (omega (arith, long)) (omega arith) refl
