-- Bits of words: literals that agree word by word agree atom by atom.
use Rattle.std.proofs.Common.{◌≡◌, ℕ, zero, suc, ◌+◌, ◌*◌, ◌/◌, ◌%◌, ◌<◌, ◌^◌, List, Bool, true, false, not, Some, None, length, refl, sym, ap, ◌∙◌, ⊎_elim, inl, inr, arith, eq-eqb}
use Rattle.std.specs.Prelude.{◌⊎◌, nat_eq, if◌then◌else◌, slice_index_or}
use Rattle.std.specs.Int.{bit_at, trailing_zeros, w64}
use Rattle.std.specs.Int.RustNames.{bit_or, bit_xor}
use lib.Bits.{bit_and}
use Rattle.std.proofs.lemmas.Bool.{cases_lt, cond-true, false≢true, eqb-true}
use Rattle.std.proofs.lemmas.List.{get_or_past}
use Rattle.std.proofs.lemmas.Option.{none-some, same_Some}
use Rattle.std.proofs.lemmas.Nat.{and_le_l}
use Rattle.std.proofs.lemmas.Nat.Bits.{bit_at_and, bit_at_or, bit_at_xor, bit_at-zero, bit_at-lt, bit_at-trailing_zeros, same_from_bits_below}
use Rattle.fond_state.specs.Cubes.{literal_at, truth_at, LiesIn, CubeLiesIn, Contradicts}
use Rattle.fond_state.specs.declared.mask.Mask.{Mask}
use Rattle.fond_state.specs.Words.{is_set, truth_in, truths_from, mask_at, literal_of, literal_in, literals_from, IsPadded, words_for, Agree, Include, Oppose}

-- ---- one word

pub one_or_zero : (b : ℕ) → b < 2 → (b ≡ 1) ⊎ (b ≡ 0)
one_or_zero zero lt = inr refl
one_or_zero (suc zero) lt = inl refl
one_or_zero (suc (suc b)) lt = absurd (omega (arith, lt))

-- a number without bits is 0
pub zero_from_bits : (n : ℕ) → n < 2 ^ 64 → ((i : ℕ) → i < 64 → bit_at n i ≡ 0) → n ≡ 0
zero_from_bits n small none = same_from_bits_below 64 n 0 small (omega arith) (λ i lt. none i lt ∙ sym (bit_at-zero i))

pub no_bit : (n : ℕ) → n ≡ 0 → (i : ℕ) → bit_at n i ≡ 0
no_bit n none i = ap (λ k. bit_at k i) none ∙ bit_at-zero i

pub agrees_from : (mask : Mask) (truth : ℕ) → bit_and mask.care (bit_xor mask.sign truth) ≡ 0 → Agree mask truth
agrees_from mask truth none i lt has =
    let one = bit_at_and mask.care (bit_xor mask.sign truth) i in
    let two = bit_at_xor mask.sign truth i in
    let nothing = no_bit _ none i in
    omega (arith, one, two, nothing, has, bit_at-lt mask.sign i, bit_at-lt truth i)

pub agrees_to : (mask : Mask) (truth : ℕ) → mask.care < 2 ^ 64 → Agree mask truth → bit_and mask.care (bit_xor mask.sign truth) ≡ 0
agrees_to mask truth small told =
    let le = and_le_l mask.care (bit_xor mask.sign truth) in
    zero_from_bits (bit_and mask.care (bit_xor mask.sign truth)) (omega (arith, le, small)) (λ i lt.
    let one = bit_at_and mask.care (bit_xor mask.sign truth) i in
    let two = bit_at_xor mask.sign truth i in
    ⊎_elim
    (λ has. let same = told i lt has in omega (arith, one, two, same, bit_at-lt mask.sign i))
    (λ no. omega (arith, one, no))
    (one_or_zero (bit_at mask.care i) (bit_at-lt mask.care i)))

pub includes_from : (mask other : Mask) → bit_and mask.care (bit_or (bit_xor other.care mask.care) (bit_xor mask.sign other.sign)) ≡ 0 → Include mask other
includes_from mask other none i lt has =
    let one = bit_at_and mask.care (bit_or (bit_xor other.care mask.care) (bit_xor mask.sign other.sign)) i in
    let two = bit_at_or (bit_xor other.care mask.care) (bit_xor mask.sign other.sign) i in
    let three = bit_at_xor other.care mask.care i in
    let four = bit_at_xor mask.sign other.sign i in
    let nothing = no_bit _ none i in (
      omega (arith, one, two, three, four, nothing, has, bit_at-lt other.care i),
      omega (arith, one, two, three, four, nothing, has, bit_at-lt mask.sign i, bit_at-lt other.sign i),
    )

pub includes_to : (mask other : Mask) → mask.care < 2 ^ 64 → Include mask other → bit_and mask.care (bit_or (bit_xor other.care mask.care) (bit_xor mask.sign other.sign)) ≡ 0
includes_to mask other small told =
    let rest = bit_or (bit_xor other.care mask.care) (bit_xor mask.sign other.sign) in
    let le = and_le_l mask.care rest in
    zero_from_bits (bit_and mask.care rest) (omega (arith, le, small)) (λ i lt.
    let one = bit_at_and mask.care rest i in
    let two = bit_at_or (bit_xor other.care mask.care) (bit_xor mask.sign other.sign) i in
    let three = bit_at_xor other.care mask.care i in
    let four = bit_at_xor mask.sign other.sign i in
    ⊎_elim
    (λ has. let same = told i lt has in let care = same.0 in let sign = same.1 in omega (arith, one, two, three, four, has, care, sign, bit_at-lt mask.sign i))
    (λ no. omega (arith, one, no))
    (one_or_zero (bit_at mask.care i) (bit_at-lt mask.care i)))

-- the lowest bit of a number that is not 0 is set
some_bit : (n : ℕ) → 0 < n → n < 2 ^ 64 → (i : ℕ) × (i < 64) × (bit_at n i ≡ 1)
some_bit n positive small =
    let lowest = bit_at-trailing_zeros w64 n positive small in
    (trailing_zeros w64 n, lowest.0, lowest.1)

pub opposed_from : (mask other : Mask) → mask.care < 2 ^ 64 → 0 < bit_and mask.care (bit_and other.care (bit_xor mask.sign other.sign)) → Oppose mask other
opposed_from mask other small positive =
    let rest = bit_and other.care (bit_xor mask.sign other.sign) in
    let le = and_le_l mask.care rest in
    let some = some_bit (bit_and mask.care rest) positive (omega (arith, le, small)) in
    let i = some.0 in
    let set = some.2 in
    let one = bit_at_and mask.care rest i in
    let two = bit_at_and other.care (bit_xor mask.sign other.sign) i in
    let three = bit_at_xor mask.sign other.sign i in
    let care = bit_at-lt mask.care i in
    let also = bit_at-lt other.care i in (
      i,
      some.1,
      omega (arith, set, one, care),
      omega (arith, set, one, two, also),
      λ same. absurd (omega (arith, set, one, two, three, same, bit_at-lt mask.sign i)),
    )

pub opposed_to : (mask other : Mask) → Oppose mask other → 0 < bit_and mask.care (bit_and other.care (bit_xor mask.sign other.sign))
opposed_to mask other (i, lt, has, also, differs) =
    let rest = bit_and other.care (bit_xor mask.sign other.sign) in
    let one = bit_at_and mask.care rest i in
    let two = bit_at_and other.care (bit_xor mask.sign other.sign) i in
    let three = bit_at_xor mask.sign other.sign i in
    let set : bit_at (bit_and mask.care rest) i ≡ 1 = omega (arith, one, two, three, has, also, differs, bit_at-lt mask.sign i, bit_at-lt other.sign i) in
    ⊎_elim
    (λ positive. positive)
    (λ none. absurd (omega (arith, set, no_bit (bit_and mask.care rest) (omega (arith, none)) i)))
    (cases_lt 0 (bit_and mask.care rest))

-- ---- lists of words

pub truth_of : (words : List ℕ) (at n k : ℕ) → k < n → truth_at (truths_from words at n) k ≡ truth_in words (at + k)
unfolding truths_from
truth_of words at zero k lt = absurd (omega (arith, lt))
truth_of words at (suc n) zero lt = let same : at ≡ at + zero = omega arith in ap (truth_in words) same
truth_of words at (suc n) (suc k) lt = let same : suc at + k ≡ at + suc k = omega arith in truth_of words (suc at) n k (omega (arith, lt)) ∙ ap (truth_in words) same

pub literal_from : (masks : List Mask) (at n k : ℕ) → k < n → literal_at (literals_from masks at n) k ≡ literal_in masks (at + k)
unfolding literals_from
literal_from masks at zero k lt = absurd (omega (arith, lt))
literal_from masks at (suc n) zero lt = let same : at ≡ at + zero = omega arith in ap (literal_in masks) same
literal_from masks at (suc n) (suc k) lt = let same : suc at + k ≡ at + suc k = omega arith in literal_from masks (suc at) n k (omega (arith, lt)) ∙ ap (literal_in masks) same

pub truth_here : (words : List ℕ) (n k : ℕ) → k < n → truth_at (truths_from words 0 n) k ≡ truth_in words k
truth_here words n k lt = let same : 0 + k ≡ k = omega arith in truth_of words 0 n k lt ∙ ap (truth_in words) same

pub literal_here : (masks : List Mask) (n k : ℕ) → k < n → literal_at (literals_from masks 0 n) k ≡ literal_in masks k
literal_here masks n k lt = let same : 0 + k ≡ k = omega arith in literal_from masks 0 n k lt ∙ ap (literal_in masks) same

pub length-truths_from : (words : List ℕ) (at n : ℕ) → length (truths_from words at n) ≡ n
unfolding truths_from
length-truths_from words at zero = refl
length-truths_from words at (suc n) = ap suc (length-truths_from words (suc at) n)

pub length-literals_from : (masks : List Mask) (at n : ℕ) → length (literals_from masks at n) ≡ n
unfolding literals_from
length-literals_from masks at zero = refl
length-literals_from masks at (suc n) = ap suc (length-literals_from masks (suc at) n)

-- a literal is where its bit is set, with its sign
pub literal_some : (mask : Mask) (place : ℕ) (sign : Bool) → literal_of mask place ≡ Some sign → (is_set mask.care place ≡ true) × (is_set mask.sign place ≡ sign)
literal_some mask place sign is = go (is_set mask.care place) refl is
  where
    go : (b : Bool) → is_set mask.care place ≡ b → (if b then Some (is_set mask.sign place) else None) ≡ Some sign → (is_set mask.care place ≡ true) × (is_set mask.sign place ≡ sign)
    go true here is = (here, same_Some _ _ is)
    go false here is = absurd (none-some sign is)

pub literal_set : (mask : Mask) (place : ℕ) → is_set mask.care place ≡ true → literal_of mask place ≡ Some (is_set mask.sign place)
literal_set mask place is = cond-true (is_set mask.care place) _ _ is

pub same_bit : (a b : ℕ) → a < 2 → b < 2 → nat_eq a 1 ≡ nat_eq b 1 → a ≡ b
same_bit zero zero s t is = refl
same_bit zero (suc zero) s t is = absurd (false≢true is)
same_bit (suc zero) zero s t is = absurd (false≢true (sym is))
same_bit (suc zero) (suc zero) s t is = refl
same_bit (suc (suc a)) b s t is = absurd (omega (arith, s))
same_bit a (suc (suc b)) s t is = absurd (omega (arith, t))

-- bits that differ have opposite values
other_bit : (a b : ℕ) → a < 2 → b < 2 → ¬ b ≡ a → nat_eq b 1 ≡ not (nat_eq a 1)
other_bit zero zero s t differs = absurd (differs refl)
other_bit zero (suc zero) s t differs = refl
other_bit (suc zero) zero s t differs = refl
other_bit (suc zero) (suc zero) s t differs = absurd (differs refl)
other_bit (suc (suc a)) b s t differs = absurd (omega (arith, s))
other_bit a (suc (suc b)) s t differs = absurd (omega (arith, t))

not_same : (sign : Bool) → not sign ≡ sign → ⊥
not_same true is = false≢true is
not_same false is = false≢true (sym is)

-- the atom of a place in a word
module _ (i j : ℕ) (lt : j < 64) where
  pub word_of : (64 * i + j) / 64 ≡ i
  word_of = omega (arith, lt)

  pub place_of : (64 * i + j) % 64 ≡ j
  place_of = omega (arith, lt)

-- the number of literals that are known is as long as the cube
within_from : (masks : List Mask) (n atom : ℕ) (sign : Bool) → literal_at (literals_from masks 0 n) atom ≡ Some sign → atom < n
within_from masks n atom sign is = ⊎_elim
    (λ lt. lt)
    (λ past. absurd (none-some sign (sym (get_or_past (literals_from masks 0 n) atom None (omega (arith, past, length-literals_from masks 0 n))) ∙ is)))
    (cases_lt atom n)

module _ (masks : List Mask) (n : ℕ) where
  -- a literal of the cube, by its word and its place
  known_at : (atom : ℕ) (sign : Bool) → literal_at (literals_from masks 0 n) atom ≡ Some sign →
      (atom < n) × (bit_at (mask_at masks (atom / 64)).care (atom % 64) ≡ 1) × (is_set (mask_at masks (atom / 64)).sign (atom % 64) ≡ sign)
  known_at atom sign is =
      let lt = within_from masks n atom sign is in
      let some = literal_some (mask_at masks (atom / 64)) (atom % 64) sign (sym (literal_here masks n atom lt) ∙ is) in
      (lt, eqb-true _ _ some.0, some.1)

  -- a bit that is set is that of a literal of the cube
  literal_there : IsPadded n masks → (i j : ℕ) → j < 64 → bit_at (mask_at masks i).care j ≡ 1 →
      (64 * i + j < n) × (literal_at (literals_from masks 0 n) (64 * i + j) ≡ Some (is_set (mask_at masks i).sign j))
  literal_there padded i j lt has =
      let here : bit_at (mask_at masks ((64 * i + j) / 64)).care ((64 * i + j) % 64) ≡ 1
      = ap (λ k. bit_at (mask_at masks k).care ((64 * i + j) % 64)) (word_of i j lt) ∙ ap (λ k. bit_at (mask_at masks i).care k) (place_of i j lt) ∙ has in
      let set : is_set (mask_at masks ((64 * i + j) / 64)).care ((64 * i + j) % 64) ≡ true = eq-eqb _ _ here in
      let within : 64 * i + j < n = ⊎_elim (λ lt. lt) (λ past. absurd (false≢true (sym (padded (64 * i + j) past) ∙ set))) (cases_lt (64 * i + j) n) in
      let sign : is_set (mask_at masks ((64 * i + j) / 64)).sign ((64 * i + j) % 64) ≡ is_set (mask_at masks i).sign j
      = ap (λ k. is_set (mask_at masks k).sign ((64 * i + j) % 64)) (word_of i j lt) ∙ ap (λ k. is_set (mask_at masks i).sign k) (place_of i j lt) in
      (within, literal_here masks n (64 * i + j) within ∙ literal_set (mask_at masks ((64 * i + j) / 64)) ((64 * i + j) % 64) set ∙ ap (λ b. Some b) sign)

  module _ (words : List ℕ) where
    -- literals that agree word by word hold
    pub lies_by_words : ((i : ℕ) → i < words_for n → Agree (mask_at masks i) (slice_index_or words i 0)) → LiesIn (truths_from words 0 n) (literals_from masks 0 n)
    lies_by_words agree atom sign is =
        let known = known_at atom sign is in
        let lt : atom < n = known.0 in
        let same = agree (atom / 64) (omega (arith, lt)) (atom % 64) (omega arith) known.1 in
        truth_here words n atom lt ∙ ap (λ b. nat_eq b 1) same ∙ known.2

    -- literals that hold agree word by word
    pub words_by_lies : IsPadded n masks → LiesIn (truths_from words 0 n) (literals_from masks 0 n) → (i : ℕ) → Agree (mask_at masks i) (slice_index_or words i 0)
    words_by_lies padded lies i j lt has =
        let there = literal_there padded i j lt has in
        let told = lies (64 * i + j) (is_set (mask_at masks i).sign j) there.1 in
        let here : truth_in words (64 * i + j) ≡ is_set (slice_index_or words i 0) j
        = ap (λ k. is_set (slice_index_or words k 0) ((64 * i + j) % 64)) (word_of i j lt) ∙ ap (λ k. is_set (slice_index_or words i 0) k) (place_of i j lt) in
        same_bit _ _ (bit_at-lt _ _) (bit_at-lt _ _) (sym here ∙ sym (truth_here words n (64 * i + j) there.0) ∙ told)

  module _ (others : List Mask) where
    -- literals that are had word by word are had
    pub covers_by_words : ((i : ℕ) → i < words_for n → Include (mask_at masks i) (mask_at others i)) → CubeLiesIn (literals_from others 0 n) (literals_from masks 0 n)
    covers_by_words include atom sign is =
        let known = known_at atom sign is in
        let lt : atom < n = known.0 in
        let both = include (atom / 64) (omega (arith, lt)) (atom % 64) (omega arith) known.1 in
        literal_here others n atom lt ∙ literal_set (mask_at others (atom / 64)) (atom % 64) (eq-eqb _ _ both.0) ∙ ap (λ b. Some (nat_eq b 1)) both.1 ∙ ap (λ b. Some b) known.2

    -- literals that are had are had word by word
    pub words_by_covers : IsPadded n masks → CubeLiesIn (literals_from others 0 n) (literals_from masks 0 n) → (i : ℕ) → Include (mask_at masks i) (mask_at others i)
    words_by_covers padded lies i j lt has =
        let there = literal_there padded i j lt has in
        let told = lies (64 * i + j) (is_set (mask_at masks i).sign j) there.1 in
        let some = literal_some (mask_at others ((64 * i + j) / 64)) ((64 * i + j) % 64) (is_set (mask_at masks i).sign j) (sym (literal_here others n (64 * i + j) there.0) ∙ told) in
        let care = eqb-true _ _ some.0 in (
          sym (ap (λ k. bit_at (mask_at others k).care ((64 * i + j) % 64)) (word_of i j lt) ∙ ap (λ k. bit_at (mask_at others i).care k) (place_of i j lt)) ∙ care,
          same_bit _ _ (bit_at-lt _ _) (bit_at-lt _ _)
              (sym (ap (λ k. is_set (mask_at others k).sign ((64 * i + j) % 64)) (word_of i j lt) ∙ ap (λ k. is_set (mask_at others i).sign k) (place_of i j lt)) ∙ some.1),
        )

-- literals that are opposed in some word contradict each other
pub opposed_by_words : (masks : List Mask) (n : ℕ) (others : List Mask) → IsPadded n masks → IsPadded n others → (i : ℕ) → Oppose (mask_at masks i) (mask_at others i) → Contradicts (literals_from masks 0 n) (literals_from others 0 n)
opposed_by_words masks n others padded also_padded i (j, lt, has, also, differs) =
    let one = literal_there masks n padded i j lt has in
    let two = literal_there others n also_padded i j lt also in
    (64 * i + j, is_set (mask_at masks i).sign j, one.1, two.1 ∙ ap (λ b. Some b) (other_bit _ _ (bit_at-lt (mask_at masks i).sign j) (bit_at-lt (mask_at others i).sign j) differs))

-- literals that contradict each other are opposed in some word
pub words_by_opposed : (masks : List Mask) (n : ℕ) (others : List Mask) → Contradicts (literals_from masks 0 n) (literals_from others 0 n) → (i : ℕ) × (i < words_for n) × Oppose (mask_at masks i) (mask_at others i)
words_by_opposed masks n others (atom, sign, one, two) =
    let known = known_at masks n atom sign one in
    let also = known_at others n atom (not sign) two in
    let lt : atom < n = known.0 in
    (atom / 64, omega (arith, lt), (atom % 64, omega arith, known.1, also.1, λ same. not_same sign (sym also.2 ∙ ap (λ b. nat_eq b 1) same ∙ known.2)))

-- ---- what the loops read

pub opposed_moved : (a b m d t : Mask) → a ≡ m → b ≡ m → d ≡ t → Oppose (record { care = a.care; sign = b.sign }) d → Oppose m t
opposed_moved a b m d t p q r (i, lt, has, also, differs) = (
  i,
  lt,
  sym (ap (λ (x : Mask). bit_at x.care i) p) ∙ has,
  sym (ap (λ (x : Mask). bit_at x.care i) r) ∙ also,
  λ same. differs (ap (λ (x : Mask). bit_at x.sign i) r ∙ same ∙ sym (ap (λ (x : Mask). bit_at x.sign i) q)),
)

pub opposed_back : (a b m d t : Mask) → a ≡ m → b ≡ m → d ≡ t → Oppose m t → Oppose (record { care = a.care; sign = b.sign }) d
opposed_back a b m d t p q r (i, lt, has, also, differs) = (
  i,
  lt,
  ap (λ (x : Mask). bit_at x.care i) p ∙ has,
  ap (λ (x : Mask). bit_at x.care i) r ∙ also,
  λ same. differs (sym (ap (λ (x : Mask). bit_at x.sign i) r) ∙ same ∙ ap (λ (x : Mask). bit_at x.sign i) q),
)

pub agree_moved : (a b m : Mask) (w t : ℕ) → a ≡ m → b ≡ m → w ≡ t → Agree (record { care = a.care; sign = b.sign }) w → Agree m t
agree_moved a b m w t p q r agree i lt has =
    sym (ap (λ x. bit_at x i) r) ∙ agree i lt (ap (λ (x : Mask). bit_at x.care i) p ∙ has) ∙ ap (λ (x : Mask). bit_at x.sign i) q

pub agree_back : (a b m : Mask) (w t : ℕ) → a ≡ m → b ≡ m → w ≡ t → Agree m t → Agree (record { care = a.care; sign = b.sign }) w
agree_back a b m w t p q r agree i lt has =
    ap (λ x. bit_at x i) r ∙ agree i lt (sym (ap (λ (x : Mask). bit_at x.care i) p) ∙ has) ∙ sym (ap (λ (x : Mask). bit_at x.sign i) q)

pub include_moved : (a b m d t : Mask) → a ≡ m → b ≡ m → d ≡ t → Include (record { care = a.care; sign = b.sign }) d → Include m t
include_moved a b m d t p q r include i lt has =
    let both = include i lt (ap (λ (x : Mask). bit_at x.care i) p ∙ has) in
    (sym (ap (λ (x : Mask). bit_at x.care i) r) ∙ both.0, sym (ap (λ (x : Mask). bit_at x.sign i) r) ∙ both.1 ∙ ap (λ (x : Mask). bit_at x.sign i) q)

pub include_back : (a b m d t : Mask) → a ≡ m → b ≡ m → d ≡ t → Include m t → Include (record { care = a.care; sign = b.sign }) d
include_back a b m d t p q r include i lt has =
    let both = include i lt (sym (ap (λ (x : Mask). bit_at x.care i) p) ∙ has) in
    (ap (λ (x : Mask). bit_at x.care i) r ∙ both.0, ap (λ (x : Mask). bit_at x.sign i) r ∙ both.1 ∙ sym (ap (λ (x : Mask). bit_at x.sign i) q))
