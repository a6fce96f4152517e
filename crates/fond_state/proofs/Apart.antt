-- The first place from which on words, and the literals of masks, differ.
use Rattle.std.proofs.Common.{◌≡◌, ℕ, ◌+◌, ◌-◌, ◌*◌, ◌/◌, ◌%◌, ◌<◌, ◌≤◌, ◌^◌, min, max, List, Bool, true, false, Option, Some, None, sym, ap, ◌∙◌, ⊎_elim, arith, eq-eqb}
use Rattle.std.specs.Prelude.{nat_eq, if◌then◌else◌}
use Rattle.std.specs.Int.{bit_at, trailing_zeros, w64}
use Rattle.std.specs.Int.RustNames.{bit_or, bit_xor}
use lib.Bits.{bit_and}
use Rattle.std.proofs.lemmas.Bool.{cases_lt, cond-false, false≢true, eqb-true}
use Rattle.std.proofs.lemmas.Option.{none-some}
use Rattle.std.proofs.lemmas.List.{get_or_past}
use Rattle.std.proofs.lemmas.Nat.{shr-shr, shr_le}
use Rattle.std.proofs.lemmas.Nat.Bits.{bit_at_and, bit_at_or, bit_at_xor, bit_at-lt, bit_at_above, bit_at-trailing_zeros}
use Rattle.fond_state.specs.Cubes.{literal_at}
use Rattle.fond_state.specs.declared.mask.Mask.{Mask}
use Rattle.fond_state.specs.Words.{is_set, mask_at, literal_of, literal_in, literals_from, IsPadded}
use Rattle.fond_state.proofs.Words.{one_or_zero, no_bit, literal_here, length-literals_from, literal_some, literal_set, same_bit}

-- ---- one word

-- the bits of a word that is shifted are the higher ones
shifted : (word from k : ℕ) → from ≤ k → bit_at (word / 2 ^ from) (k - from) ≡ bit_at word k
shifted word from k le =
    let same : from + (k - from) ≡ k = omega (arith, le) in
    ap (λ n. n % 2) (shr-shr word from (k - from) ∙ ap (λ j. word / 2 ^ j) same)

-- no bit is set where nothing is left
pub none_left : (word from : ℕ) → word / 2 ^ from ≡ 0 → (k : ℕ) → from ≤ k → is_set word k ≡ false
none_left word from none k le = ap (λ b. nat_eq b 1) (sym (shifted word from k le) ∙ no_bit _ none (k - from))

module _ (word from : ℕ) (fits : word < 2 ^ 64) (some : 0 < word / 2 ^ from) where
  small : word / 2 ^ from < 2 ^ 64
  small = omega (arith, fits, shr_le word from)

  abbrev lowest : ℕ
  lowest = trailing_zeros w64 (word / 2 ^ from)

  -- the lowest bit that is left is set
  pub lowest_set : is_set word (from + lowest) ≡ true
  lowest_set =
      let same : from + lowest - from ≡ lowest = omega arith in
      eq-eqb _ _ (sym (shifted word from (from + lowest) (omega arith)) ∙ ap (bit_at (word / 2 ^ from)) same ∙ (bit_at-trailing_zeros w64 _ some small).1)

  -- and is a bit of the word
  pub lowest_within : from + lowest < 64
  lowest_within = ⊎_elim
      (λ lt. lt)
      (λ past. absurd (false≢true (sym (ap (λ b. nat_eq b 1) (bit_at_above word 64 (from + lowest) fits past)) ∙ lowest_set)))
      (cases_lt (from + lowest) 64)

  -- no bit below the lowest one is set
  pub clear_below : (k : ℕ) → from ≤ k → k < from + lowest → is_set word k ≡ false
  clear_below k le lt =
      ap (λ b. nat_eq b 1) (sym (shifted word from k le) ∙ (bit_at-trailing_zeros w64 _ some small).2 (k - from) (omega (arith, le, lt)))

-- ---- two masks

module _ (mask other : Mask) (place : ℕ) where
  abbrev apart : ℕ
  apart = bit_or (bit_xor mask.care other.care) (bit_and mask.care (bit_xor mask.sign other.sign))

  bits : bit_at apart place ≡ max ((bit_at mask.care place + bit_at other.care place) % 2) (min (bit_at mask.care place) ((bit_at mask.sign place + bit_at other.sign place) % 2))
  bits =
      bit_at_or (bit_xor mask.care other.care) (bit_and mask.care (bit_xor mask.sign other.sign)) place
      ∙ ap (λ b. max b (bit_at (bit_and mask.care (bit_xor mask.sign other.sign)) place)) (bit_at_xor mask.care other.care place)
      ∙ ap (λ b. max ((bit_at mask.care place + bit_at other.care place) % 2) b) (bit_at_and mask.care (bit_xor mask.sign other.sign) place ∙ ap (λ b. min (bit_at mask.care place) b) (bit_at_xor mask.sign other.sign place))

  -- the literals are the same where the masks have no bit apart
  pub same_literal : is_set apart place ≡ false → literal_of mask place ≡ literal_of other place
  same_literal none = ⊎_elim
      (λ has.
      let cares : bit_at mask.care place ≡ bit_at other.care place = omega (arith, has, zero, bits, bit_at-lt other.care place) in
      let signs : bit_at mask.sign place ≡ bit_at other.sign place = omega (arith, has, zero, bits, bit_at-lt mask.sign place, bit_at-lt other.sign place) in
      ap (λ b. if nat_eq b 1 then Some (is_set mask.sign place) else None) cares ∙ ap (λ b. if is_set other.care place then Some (nat_eq b 1) else None) signs)
      (λ no.
      let also : bit_at other.care place ≡ 0 = omega (arith, no, zero, bits, bit_at-lt other.care place) in
      cond-false (is_set mask.care place) _ _ (ap (λ b. nat_eq b 1) no) ∙ sym (cond-false (is_set other.care place) _ _ (ap (λ b. nat_eq b 1) also)))
      (one_or_zero (bit_at mask.care place) (bit_at-lt mask.care place))
    where
      zero : bit_at apart place ≡ 0
      zero = ⊎_elim (λ one. absurd (false≢true (sym none ∙ eq-eqb _ _ one))) (λ is. is) (one_or_zero (bit_at apart place) (bit_at-lt apart place))

  -- the literals differ where the masks have a bit apart
  pub other_literal : is_set apart place ≡ true → ¬ literal_of mask place ≡ literal_of other place
  other_literal set same = ⊎_elim
      (λ has.
      let some = literal_some other place (is_set mask.sign place) (sym same ∙ literal_set mask place (eq-eqb _ _ has)) in
      let also = eqb-true _ _ some.0 in
      let signs = same_bit _ _ (bit_at-lt other.sign place) (bit_at-lt mask.sign place) some.1 in
      absurd (omega (arith, has, also, signs, bits, eqb-true _ _ set, bit_at-lt mask.sign place)))
      (λ no.
      let also : bit_at other.care place ≡ 1 = omega (arith, no, bits, eqb-true _ _ set, bit_at-lt other.care place) in
      none-some _ (sym (cond-false (is_set mask.care place) _ _ (ap (λ b. nat_eq b 1) no)) ∙ same ∙ literal_set other place (eq-eqb _ _ also)))
      (one_or_zero (bit_at mask.care place) (bit_at-lt mask.care place))

-- ---- lists of masks

literal_any : (masks : List Mask) (n atom : ℕ) → IsPadded n masks → literal_at (literals_from masks 0 n) atom ≡ literal_in masks atom
literal_any masks n atom padded = ⊎_elim
    (λ lt. literal_here masks n atom lt)
    (λ past.
    get_or_past (literals_from masks 0 n) atom None (omega (arith, past, length-literals_from masks 0 n))
    ∙ sym (cond-false (is_set (mask_at masks (atom / 64)).care (atom % 64)) _ _ (padded atom past)))
    (cases_lt atom n)

-- the literal of an atom in a cube is that in its masks
pub in_cube : (masks : List Mask) (n : ℕ) (cube : List (Option Bool)) → IsPadded n masks → literals_from masks 0 n ≡ cube → (atom : ℕ) → literal_at cube atom ≡ literal_in masks atom
in_cube masks n cube padded is atom = ap (λ c. literal_at c atom) (sym is) ∙ literal_any masks n atom padded

-- of these atoms, each has the same literal in some masks as in others
abbrev pub AreSame : List Mask → List Mask → ℕ → ℕ → Type 0
AreSame masks others from end = (atom : ℕ) → from ≤ atom → atom < end → literal_in masks atom ≡ literal_in others atom

-- the same literals in words are the same literals in cubes
pub same_in_cubes : (masks others : List Mask) (n m from end : ℕ) (cube other : List (Option Bool)) → IsPadded n masks → IsPadded m others → literals_from masks 0 n ≡ cube → literals_from others 0 m ≡ other →
    AreSame masks others from end → (atom : ℕ) → from ≤ atom → atom < end → literal_at cube atom ≡ literal_at other atom
same_in_cubes masks others n m from end cube other padded also is too same atom le lt =
    in_cube masks n cube padded is atom ∙ same atom le lt ∙ sym (in_cube others m other also too atom)

module _ (i : ℕ) where
  -- the literal of an atom of a word is that at its place there
  pub in_word : (masks : List Mask) (atom : ℕ) → 64 * i ≤ atom → atom < 64 * i + 64 → literal_in masks atom ≡ literal_of (mask_at masks i) (atom - 64 * i)
  in_word masks atom le lt =
      let word : atom / 64 ≡ i = omega (arith, le, lt) in
      let place : atom % 64 ≡ atom - 64 * i = omega (arith, le, lt) in
      ap (λ k. literal_of (mask_at masks k) (atom % 64)) word ∙ ap (literal_of (mask_at masks i)) place

  module _ (masks others : List Mask) (mask other : Mask) (is : mask ≡ mask_at masks i) (too : other ≡ mask_at others i) where
    -- what is the same before a word, and in it up to a place, is the same up to there
    pub same_more : (from start place : ℕ) → start ≡ from - 64 * i → place ≤ 64 →
        ((j : ℕ) → start ≤ j → j < place → literal_of mask j ≡ literal_of other j) →
        AreSame masks others from (64 * i) → AreSame masks others from (64 * i + place)
    same_more from start place begins within same before atom le lt = ⊎_elim
        (λ early. before atom le early)
        (λ late.
        in_word masks atom late (omega (arith, lt, within)) ∙ ap (λ m. literal_of m (atom - 64 * i)) (sym is)
        ∙ same (atom - 64 * i) (omega (arith, begins, le)) (omega (arith, lt, late))
        ∙ ap (λ m. literal_of m (atom - 64 * i)) too ∙ sym (in_word others atom late (omega (arith, lt, within))))
        (cases_lt atom (64 * i))

    -- literals that differ at a place of a word differ at its atom
    pub other_at : (place : ℕ) → place < 64 → ¬ literal_of mask place ≡ literal_of other place → ¬ literal_in masks (64 * i + place) ≡ literal_in others (64 * i + place)
    other_at place lt differs same =
        let back : 64 * i + place - 64 * i ≡ place = omega arith in
        let here : (list : List Mask) → literal_in list (64 * i + place) ≡ literal_of (mask_at list i) place
        = λ list. in_word list (64 * i + place) (omega arith) (omega (arith, lt)) ∙ ap (literal_of (mask_at list i)) back in
        differs (ap (λ m. literal_of m place) is ∙ sym (here masks) ∙ same ∙ here others ∙ ap (λ m. literal_of m place) (sym too))
