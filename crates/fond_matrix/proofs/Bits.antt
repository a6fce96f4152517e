-- Words that grow, unions of words, and their first bits.
use Rattle.std.proofs.Common.{◌≡◌, ℕ, zero, suc, ◌+◌, ◌-◌, ◌*◌, ◌/◌, ◌%◌, ◌<◌, ◌≤◌, ◌^◌, min, max, List, [], ◌∷◌, ◌++◌, Bool, true, false, length, refl, sym, ap, ◌∙◌, ⊎_elim, arith, eq-eqb}
use Rattle.std.specs.Prelude.{nat_eq, slice_index_or, not, ◌||◌, ◌&&◌}
use Rattle.std.specs.Int.{bit_at, trailing_ones, trailing_zeros, w64}
use Rattle.std.specs.Int.RustNames.{bit_or}
use Rattle.std.proofs.lemmas.Nat.Bits.{bit_at_and, bit_at_or, bit_at_not, bit_at_ones, bit_at-lt, bit_at-zero, bit_at-trailing_ones, bit_at-trailing_zeros}
use Rattle.std.proofs.lemmas.Nat.{and_le_l}
use lib.Bits.{bit_and, or_comm, and_zero_r}
use Rattle.std.proofs.lemmas.Bool.{cases_lt, cases_eq}
use Rattle.std.proofs.lemmas.List.{get_or_append_left, get_or_past, get_or_push, length_push}
use Rattle.fond_state.specs.Words.{is_set, truth_in}

-- a further item that is the default changes nothing
pub get_or_more : {X : Type 0} (xs : List X) (d : X) (i : ℕ) → slice_index_or (xs ++ d ∷ []) i d ≡ slice_index_or xs i d
get_or_more xs d i = ⊎_elim
    (λ lt. get_or_append_left xs (d ∷ []) d i lt)
    (λ past. ⊎_elim
    (λ is. get_or_push xs d d i (sym is) ∙ sym (get_or_past xs i d past))
    (λ differs. get_or_past (xs ++ d ∷ []) i d (omega (arith, past, differs, length_push xs d)) ∙ sym (get_or_past xs i d past))
    (cases_eq i (length xs)))
    (cases_lt i (length xs))

pub truth_more : (words : List ℕ) (number : ℕ) → truth_in (words ++ 0 ∷ []) number ≡ truth_in words number
truth_more words number = ap (λ w. is_set w (number % 64)) (get_or_more words 0 (number / 64))

-- ---- one word that is the union of two

max_set : (a b : ℕ) → a < 2 → b < 2 → nat_eq (max a b) 1 ≡ (nat_eq a 1 || nat_eq b 1)
max_set zero zero s t = refl
max_set zero (suc zero) s t = refl
max_set (suc zero) zero s t = refl
max_set (suc zero) (suc zero) s t = refl
max_set (suc (suc a)) b s t = absurd (omega (arith, s))
max_set a (suc (suc b)) s t = absurd (omega (arith, t))

pub set_or : (a b place : ℕ) → is_set (bit_or a b) place ≡ (is_set a place || is_set b place)
set_or a b place = ap (λ n. nat_eq n 1) (bit_at_or a b place) ∙ max_set (bit_at a place) (bit_at b place) (bit_at-lt a place) (bit_at-lt b place)

min_set : (a b : ℕ) → a < 2 → b < 2 → nat_eq (min a b) 1 ≡ (nat_eq a 1 && nat_eq b 1)
min_set zero zero s t = refl
min_set zero (suc zero) s t = refl
min_set (suc zero) zero s t = refl
min_set (suc zero) (suc zero) s t = refl
min_set (suc (suc a)) b s t = absurd (omega (arith, s))
min_set a (suc (suc b)) s t = absurd (omega (arith, t))

pub set_and : (a b place : ℕ) → is_set (bit_and a b) place ≡ (is_set a place && is_set b place)
set_and a b place = ap (λ n. nat_eq n 1) (bit_at_and a b place) ∙ min_set (bit_at a place) (bit_at b place) (bit_at-lt a place) (bit_at-lt b place)

not_set : (a : ℕ) → a < 2 → nat_eq (1 - a) 1 ≡ not (nat_eq a 1)
not_set zero s = refl
not_set (suc zero) s = refl
not_set (suc (suc a)) s = absurd (omega (arith, s))

pub set_not : (a place : ℕ) → a < 2 ^ 64 → place < 64 → is_set (2 ^ 64 - 1 - a) place ≡ not (is_set a place)
set_not a place small lt = ap (λ n. nat_eq n 1) (bit_at_not w64 a place small lt) ∙ not_set (bit_at a place) (bit_at-lt a place)

-- a full word has each bit
pub full_set : (place : ℕ) → place < 64 → is_set (2 ^ 64 - 1) place ≡ true
full_set place lt = eq-eqb _ _ (bit_at_ones 64 place lt)

clear : (place : ℕ) → is_set 0 place ≡ false
clear place = ap (λ b. nat_eq b 1) (bit_at-zero place)

or_false : (b : Bool) → b ≡ (b || false)
or_false true = refl
or_false false = refl

and_false : (b : Bool) → (b && false) ≡ false
and_false true = refl
and_false false = refl

-- a word that is 0 has no bit to add
pub or_none : (a b : ℕ) → b ≡ 0 → a ≡ bit_or a b
or_none a b none = sym (ap (bit_or a) none ∙ or_comm a 0)

pub or_and_none : (a b c : ℕ) → c ≡ 0 → a ≡ bit_or a (bit_and b c)
or_and_none a b c none = or_none a (bit_and b c) (ap (bit_and b) none ∙ and_zero_r b)

-- the bit of a place from a word on
word_there : (row : List ℕ) (start k : ℕ) → truth_in row (64 * start + k) ≡ is_set (slice_index_or row (start + k / 64) 0) (k % 64)
word_there row start k =
    let word : (64 * start + k) / 64 ≡ start + k / 64 = omega arith in
    let place : (64 * start + k) % 64 ≡ k % 64 = omega arith in
    ap (λ i. is_set (slice_index_or row i 0) ((64 * start + k) % 64)) word ∙ ap (λ p. is_set (slice_index_or row (start + k / 64) 0) p) place

-- words that are 0 have no bits
pub no_bits_before : (row : List ℕ) (start skip : ℕ) → ((i : ℕ) → i < skip → slice_index_or row i 0 ≡ 0) → (k : ℕ) → k < 64 * (skip - start) → truth_in row (64 * start + k) ≡ false
no_bits_before row start skip none k lt = word_there row start k ∙ ap (λ w. is_set w (k % 64)) (none (start + k / 64) (omega (arith, lt))) ∙ clear (k % 64)

-- words to which those of others from a word on were added have the bits of both
module _ (out old row : List ℕ) (start count end : ℕ) (le : min count (length row - start) ≤ end)
    (done : (k : ℕ) → k < end → slice_index_or out k 0 ≡ bit_or (slice_index_or old k 0) (slice_index_or row (start + k) 0))
    (rest : (k : ℕ) → end ≤ k → slice_index_or out k 0 ≡ slice_index_or old k 0) where
  pub bits_added : (k : ℕ) → k < 64 * count → truth_in out k ≡ (truth_in old k || truth_in row (64 * start + k))
  bits_added k lt = ⊎_elim
      (λ small. ap (λ w. is_set w (k % 64)) (done (k / 64) small) ∙ set_or (slice_index_or old (k / 64) 0) (slice_index_or row (start + k / 64) 0) (k % 64) ∙ ap (λ b. truth_in old k || b) (sym (word_there row start k)))
      (λ past.
      let none : slice_index_or row (start + k / 64) 0 ≡ 0 = get_or_past row (start + k / 64) 0 (omega (arith, past, le, lt)) in
      let absent : truth_in row (64 * start + k) ≡ false = word_there row start k ∙ ap (λ w. is_set w (k % 64)) none ∙ clear (k % 64) in
      ap (λ w. is_set w (k % 64)) (rest (k / 64) past) ∙ or_false (truth_in old k) ∙ ap (λ b. truth_in old k || b) (sym absent))
      (cases_lt (k / 64) end)

-- words to which the bits that two others share from a word on were added have the bits of both
module _ (out old once row : List ℕ) (start count end : ℕ) (le : min count (length row - start) ≤ end)
    (done : (k : ℕ) → k < end → slice_index_or out k 0 ≡ bit_or (slice_index_or old k 0) (bit_and (slice_index_or once k 0) (slice_index_or row (start + k) 0)))
    (rest : (k : ℕ) → end ≤ k → slice_index_or out k 0 ≡ slice_index_or old k 0) where
  pub shared_added : (k : ℕ) → k < 64 * count → truth_in out k ≡ (truth_in old k || (truth_in once k && truth_in row (64 * start + k)))
  shared_added k lt = ⊎_elim
      (λ small. ap (λ w. is_set w (k % 64)) (done (k / 64) small)
      ∙ set_or (slice_index_or old (k / 64) 0) (bit_and (slice_index_or once (k / 64) 0) (slice_index_or row (start + k / 64) 0)) (k % 64)
      ∙ ap (λ b. truth_in old k || b) (set_and (slice_index_or once (k / 64) 0) (slice_index_or row (start + k / 64) 0) (k % 64) ∙ ap (λ b. truth_in once k && b) (sym (word_there row start k))))
      (λ past.
      let none : slice_index_or row (start + k / 64) 0 ≡ 0 = get_or_past row (start + k / 64) 0 (omega (arith, past, le, lt)) in
      let absent : truth_in row (64 * start + k) ≡ false = word_there row start k ∙ ap (λ w. is_set w (k % 64)) none ∙ clear (k % 64) in
      ap (λ w. is_set w (k % 64)) (rest (k / 64) past) ∙ or_false (truth_in old k) ∙ ap (λ b. truth_in old k || b) (sym (ap (λ b. truth_in once k && b) absent ∙ and_false (truth_in once k))))
      (cases_lt (k / 64) end)

module _ (words : List ℕ) (i : ℕ) where
  abbrev word : ℕ
  word = slice_index_or words i 0

  bit_here : (j : ℕ) → j < 64 → truth_in words (64 * i + j) ≡ is_set word j
  bit_here j lt =
      let at : (64 * i + j) / 64 ≡ i = omega (arith, lt) in
      let place : (64 * i + j) % 64 ≡ j = omega (arith, lt) in
      ap (λ k. is_set (slice_index_or words k 0) ((64 * i + j) % 64)) at ∙ ap (λ p. is_set word p) place

  bit_at_place : (k : ℕ) → 64 * i ≤ k → k < 64 * (i + 1) → truth_in words k ≡ is_set word (k - 64 * i)
  bit_at_place k from below =
      let same : k ≡ 64 * i + (k - 64 * i) = omega (arith, from) in
      ap (truth_in words) same ∙ bit_here (k - 64 * i) (omega (arith, from, below))

  -- the bits of a full word
  pub all_set : word ≡ 2 ^ 64 - 1 → (k : ℕ) → 64 * i ≤ k → k < 64 * (i + 1) → truth_in words k ≡ true
  all_set full k from below = bit_at_place k from below ∙ ap (λ w. is_set w (k - 64 * i)) full ∙ full_set (k - 64 * i) (omega (arith, from, below))

  -- the lowest bits of a word that is not full, up to the first that is not set
  module _ (small : word < 2 ^ 64) (differs : ¬ word ≡ 2 ^ 64 - 1) where
    pub ones : (trailing_ones w64 word < 64) × (bit_at word (trailing_ones w64 word) ≡ 0) × ((k : ℕ) → k < trailing_ones w64 word → bit_at word k ≡ 1)
    ones = bit_at-trailing_ones w64 word (omega (arith, small, differs))

    pub low_set : (k : ℕ) → 64 * i ≤ k → k < 64 * i + trailing_ones w64 word → truth_in words k ≡ true
    low_set k from below =
        let lt : trailing_ones w64 word < 64 = ones.0 in
        bit_at_place k from (omega (arith, below, lt)) ∙ eq-eqb _ _ (ones.2 (k - 64 * i) (omega (arith, from, below)))

    pub first_not_set : truth_in words (64 * i + trailing_ones w64 word) ≡ false
    first_not_set = bit_here (trailing_ones w64 word) ones.0 ∙ ap (λ b. nat_eq b 1) ones.1

-- the bits of a word from a word on that are not bits of another
module _ (row out : List ℕ) (start i : ℕ) (small : slice_index_or out i 0 < 2 ^ 64) (fits : slice_index_or row (start + i) 0 < 2 ^ 64) where
  abbrev left : ℕ
  left = bit_and (slice_index_or row (start + i) 0) (2 ^ 64 - 1 - slice_index_or out i 0)

  abbrev is_left : ℕ → Bool
  is_left k = truth_in row (64 * start + k) && not (truth_in out k)

  left_here : (k : ℕ) → 64 * i ≤ k → k < 64 * (i + 1) → is_left k ≡ is_set left (k - 64 * i)
  left_here k from below =
      let word : k / 64 ≡ i = omega (arith, from, below) in
      let place : k % 64 ≡ k - 64 * i = omega (arith, from, below) in
      let one : truth_in row (64 * start + k) ≡ is_set (slice_index_or row (start + i) 0) (k - 64 * i)
      = word_there row start k ∙ ap (λ j. is_set (slice_index_or row (start + j) 0) (k % 64)) word ∙ ap (λ p. is_set (slice_index_or row (start + i) 0) p) place in
      let two : truth_in out k ≡ is_set (slice_index_or out i 0) (k - 64 * i) = bit_at_place out i k from below in
      ap (λ b. b && not (truth_in out k)) one ∙ ap (λ b. is_set (slice_index_or row (start + i) 0) (k - 64 * i) && not b) two
      ∙ sym (set_and (slice_index_or row (start + i) 0) (2 ^ 64 - 1 - slice_index_or out i 0) (k - 64 * i)
      ∙ ap (λ b. is_set (slice_index_or row (start + i) 0) (k - 64 * i) && b) (set_not (slice_index_or out i 0) (k - 64 * i) small (omega (arith, from, below))))

  pub none_left : left ≡ 0 → (k : ℕ) → 64 * i ≤ k → k < 64 * (i + 1) → is_left k ≡ false
  none_left none k from below = left_here k from below ∙ ap (λ w. is_set w (k - 64 * i)) none ∙ clear (k - 64 * i)

  module _ (some : ¬ left ≡ 0) where
    lowest : (trailing_zeros w64 left < 64) × (bit_at left (trailing_zeros w64 left) ≡ 1) × ((k : ℕ) → k < trailing_zeros w64 left → bit_at left k ≡ 0)
    lowest = bit_at-trailing_zeros w64 left (omega (arith, some)) (omega (arith, fits, and_le_l (slice_index_or row (start + i) 0) (2 ^ 64 - 1 - slice_index_or out i 0)))

    pub none_lower : (k : ℕ) → 64 * i ≤ k → k < 64 * i + trailing_zeros w64 left → is_left k ≡ false
    none_lower k from below =
        let lt : trailing_zeros w64 left < 64 = lowest.0 in
        left_here k from (omega (arith, below, lt)) ∙ ap (λ b. nat_eq b 1) (lowest.2 (k - 64 * i) (omega (arith, from, below)))

    pub lowest_left : is_left (64 * i + trailing_zeros w64 left) ≡ true
    lowest_left =
        let lt : trailing_zeros w64 left < 64 = lowest.0 in
        let same : 64 * i + trailing_zeros w64 left - 64 * i ≡ trailing_zeros w64 left = omega arith in
        left_here (64 * i + trailing_zeros w64 left) (omega arith) (omega (arith, lt)) ∙ ap (is_set left) same ∙ eq-eqb _ _ lowest.1
