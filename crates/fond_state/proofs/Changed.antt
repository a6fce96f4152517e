-- Words and masks that are made, or changed at one place.
use Rattle.std.proofs.Common.{◌≡◌, ℕ, zero, suc, ◌+◌, ◌*◌, ◌/◌, ◌%◌, ◌<◌, ◌≤◌, ◌^◌, List, [], ◌∷◌, ◌++◌, Bool, true, false, Option, Some, None, length, replicate, set, refl, sym, ap, subst, ◌∙◌, ⊎_elim, arith}
use Rattle.std.specs.Prelude.{nat_eq, if◌then◌else◌, slice_index_or}
use Rattle.std.proofs.lemmas.Bool.{cases_lt, cases_eq, cond-false}
use Rattle.std.proofs.lemmas.List.{get_or_append_left, get_or_past, get_or_push, get_or-set_same, get_or-set_other, get_or_default, length-set, length_push, same_lists}
use Rattle.std.proofs.lemmas.Nat.Bits.{bit_at-zero}
use Rattle.fond_state.specs.Cubes.{literal_at, truth_at, full_cube}
use Rattle.fond_state.specs.declared.mask.Mask.{Mask}
use Rattle.fond_state.specs.Words.{is_set, no_mask, truth_in, truths_from, mask_at, literal_of, literal_in, literals_from, words_for, HasNoMore, AreWords, IsPadded}
use Rattle.fond_state.proofs.Words.{length-truths_from, length-literals_from, truth_here, literal_here, literal_set}

-- ---- nothing is set

get_or-replicate : {X : Type 0} (n i : ℕ) (x : X) → slice_index_or (replicate n x) i x ≡ x
get_or-replicate zero i x = refl
get_or-replicate (suc n) zero x = refl
get_or-replicate (suc n) (suc i) x = get_or-replicate n i x

clear : (place : ℕ) → is_set 0 place ≡ false
clear place = ap (λ b. nat_eq b 1) (bit_at-zero place)

-- no bit of words that are 0 is set
pub none_true : (m atom : ℕ) → truth_in (replicate m 0) atom ≡ false
none_true m atom = ap (λ w. is_set w (atom % 64)) (get_or-replicate m (atom / 64) 0) ∙ clear (atom % 64)

-- words that are 0 have no true atom
pub all_false : (m atom count : ℕ) → truths_from (replicate m 0) atom count ≡ replicate count false
unfolding truths_from
all_false m atom zero = refl
all_false m atom (suc count) = ap (λ b. b ∷ truths_from (replicate m 0) (suc atom) count) (none_true m atom) ∙ ap (λ bs. false ∷ bs) (all_false m (suc atom) count)

-- masks without literals have none
pub no_literals : (m atom count : ℕ) → literals_from (replicate m no_mask) atom count ≡ replicate count None
unfolding literals_from
no_literals m atom zero = refl
no_literals m atom (suc count) =
    let none : literal_in (replicate m no_mask) atom ≡ None
    = ap (λ k. literal_of k (atom % 64)) (get_or-replicate m (atom / 64) no_mask) ∙ cond-false (is_set 0 (atom % 64)) _ _ (clear (atom % 64)) in
    ap (λ b. b ∷ literals_from (replicate m no_mask) (suc atom) count) none ∙ ap (λ bs. None ∷ bs) (no_literals m (suc atom) count)

-- ---- a word with one bit set or cleared

module _ (words : List ℕ) (n atom : ℕ) (small : atom < n) (v : Bool) (word : ℕ) (within : atom / 64 < length words)
    (same : is_set word (atom % 64) ≡ v)
    (other : (k : ℕ) → k < 64 → ¬ k ≡ atom % 64 → is_set word k ≡ is_set (slice_index_or words (atom / 64) 0) k) where
  abbrev put : List ℕ
  put = set words (atom / 64) word

  put_here : slice_index_or put (atom / 64) 0 ≡ word
  put_here = get_or-set_same words (atom / 64) word 0 within

  put_there : (i : ℕ) → ¬ i ≡ atom / 64 → slice_index_or put i 0 ≡ slice_index_or words i 0
  put_there i differs = get_or-set_other words (atom / 64) i word 0 differs

  truth_put : truth_in put atom ≡ v
  truth_put = ap (λ w. is_set w (atom % 64)) put_here ∙ same

  truth_kept : (k : ℕ) → ¬ k ≡ atom → truth_in put k ≡ truth_in words k
  truth_kept k differs = ⊎_elim
      (λ one. ap (λ i. is_set (slice_index_or put i 0) (k % 64)) one ∙ ap (λ w. is_set w (k % 64)) put_here
      ∙ other (k % 64) (omega arith) (λ is. differs (omega (arith, one, is))) ∙ ap (λ i. is_set (slice_index_or words i 0) (k % 64)) (sym one))
      (λ far. ap (λ w. is_set w (k % 64)) (put_there (k / 64) far))
      (cases_eq (k / 64) (atom / 64))

  -- the truth values are those of before with one set
  pub truths_put : truths_from put 0 n ≡ set (truths_from words 0 n) atom v
  truths_put = same_lists (truths_from put 0 n) (set (truths_from words 0 n) atom v)
      (length-truths_from put 0 n ∙ sym (length-set (truths_from words 0 n) atom v ∙ length-truths_from words 0 n))
      (λ k d lt.
      let inside : k < n = omega (arith, lt, length-truths_from put 0 n) in
      let in_old : k < length (truths_from words 0 n) = omega (arith, inside, length-truths_from words 0 n) in
      let in_set : k < length (set (truths_from words 0 n) atom v) = omega (arith, in_old, length-set (truths_from words 0 n) atom v) in
      get_or_default (truths_from put 0 n) k d false lt ∙ truth_here put n k inside
      ∙ ⊎_elim
      (λ is. ap (truth_in put) is ∙ truth_put ∙ sym (ap (λ j. truth_at (set (truths_from words 0 n) atom v) j) is ∙ get_or-set_same (truths_from words 0 n) atom v false (omega (arith, small, length-truths_from words 0 n))))
      (λ differs. truth_kept k differs ∙ sym (truth_here words n k inside) ∙ sym (get_or-set_other (truths_from words 0 n) atom k v false differs))
      (cases_eq k atom)
      ∙ sym (get_or_default (set (truths_from words 0 n) atom v) k d false in_set))

  pub none_put : HasNoMore n words → HasNoMore n put
  none_put none at past = truth_kept at (λ is. omega (arith, past, small, is)) ∙ none at past

  pub words_put : word < 2 ^ 64 → AreWords words → AreWords put
  words_put fits are k = ⊎_elim
      (λ is. subst (λ w. w < 2 ^ 64) (sym (ap (λ i. slice_index_or put i 0) is ∙ put_here)) fits)
      (λ differs. subst (λ w. w < 2 ^ 64) (sym (put_there k differs)) (are k))
      (cases_eq k (atom / 64))

-- ---- a mask that got or lost a literal

module _ (masks : List Mask) (n atom : ℕ) (small : atom < n) (known : Option Bool) (mask : Mask) (within : atom / 64 < length masks)
    (same : literal_of mask (atom % 64) ≡ known)
    (other : (k : ℕ) → k < 64 → ¬ k ≡ atom % 64 → (is_set mask.care k ≡ is_set (mask_at masks (atom / 64)).care k) × (is_set mask.sign k ≡ is_set (mask_at masks (atom / 64)).sign k)) where
  abbrev after : List Mask
  after = set masks (atom / 64) mask

  here_is : mask_at after (atom / 64) ≡ mask
  here_is = get_or-set_same masks (atom / 64) mask no_mask within

  there_is : (i : ℕ) → ¬ i ≡ atom / 64 → mask_at after i ≡ mask_at masks i
  there_is i differs = get_or-set_other masks (atom / 64) i mask no_mask differs

  literal_put : literal_in after atom ≡ known
  literal_put = ap (λ m. literal_of m (atom % 64)) here_is ∙ same

  -- at each other atom nothing changes
  care_kept : (k : ℕ) → ¬ k ≡ atom → is_set (mask_at after (k / 64)).care (k % 64) ≡ is_set (mask_at masks (k / 64)).care (k % 64)
  care_kept k differs = ⊎_elim
      (λ one. ap (λ i. is_set (mask_at after i).care (k % 64)) one ∙ ap (λ (m : Mask). is_set m.care (k % 64)) here_is
      ∙ (other (k % 64) (omega arith) (λ is. differs (omega (arith, one, is)))).0 ∙ ap (λ i. is_set (mask_at masks i).care (k % 64)) (sym one))
      (λ far. ap (λ (m : Mask). is_set m.care (k % 64)) (there_is (k / 64) far))
      (cases_eq (k / 64) (atom / 64))

  literal_kept : (k : ℕ) → ¬ k ≡ atom → literal_in after k ≡ literal_in masks k
  literal_kept k differs = ⊎_elim
      (λ one.
      let parts = other (k % 64) (omega arith) (λ is. differs (omega (arith, one, is))) in
      ap (λ i. literal_of (mask_at after i) (k % 64)) one ∙ ap (λ m. literal_of m (k % 64)) here_is
      ∙ ap (λ b. if b then Some (is_set mask.sign (k % 64)) else None) parts.0 ∙ ap (λ b. if is_set (mask_at masks (atom / 64)).care (k % 64) then Some b else None) parts.1
      ∙ ap (λ i. literal_of (mask_at masks i) (k % 64)) (sym one))
      (λ far. ap (λ m. literal_of m (k % 64)) (there_is (k / 64) far))
      (cases_eq (k / 64) (atom / 64))

  -- the literals are those of before with one changed
  pub literals_put : literals_from after 0 n ≡ set (literals_from masks 0 n) atom known
  literals_put = same_lists (literals_from after 0 n) (set (literals_from masks 0 n) atom known)
      (length-literals_from after 0 n ∙ sym (length-set (literals_from masks 0 n) atom known ∙ length-literals_from masks 0 n))
      (λ k d lt.
      let inside : k < n = omega (arith, lt, length-literals_from after 0 n) in
      let in_old : k < length (literals_from masks 0 n) = omega (arith, inside, length-literals_from masks 0 n) in
      let in_set : k < length (set (literals_from masks 0 n) atom known) = omega (arith, in_old, length-set (literals_from masks 0 n) atom known) in
      get_or_default (literals_from after 0 n) k d None lt ∙ literal_here after n k inside
      ∙ ⊎_elim
      (λ is. ap (literal_in after) is ∙ literal_put ∙ sym (ap (λ j. literal_at (set (literals_from masks 0 n) atom known) j) is ∙ get_or-set_same (literals_from masks 0 n) atom known None (omega (arith, small, length-literals_from masks 0 n))))
      (λ differs. literal_kept k differs ∙ sym (literal_here masks n k inside) ∙ sym (get_or-set_other (literals_from masks 0 n) atom k known None differs))
      (cases_eq k atom)
      ∙ sym (get_or_default (set (literals_from masks 0 n) atom known) k d None in_set))

  pub padded_put : IsPadded n masks → IsPadded n after
  padded_put padded at past = care_kept at (λ is. omega (arith, past, small, is)) ∙ padded at past

-- ---- masks with a literal of each atom

-- the masks have the signs of words, and a literal of each of the first n atoms alone
pub record AreFull (words : List ℕ) (n : ℕ) (masks : List Mask) (count : ℕ) : Type 0 where
  pub counted : length masks ≡ count
  pub signs : (i : ℕ) → i < count → (mask_at masks i).sign ≡ slice_index_or words i 0
  pub cares : (i j : ℕ) → i < count → j < 64 → 64 * i + j < n → is_set (mask_at masks i).care j ≡ true
  pub padded : (i j : ℕ) → i < count → j < 64 → n ≤ 64 * i + j → is_set (mask_at masks i).care j ≡ false

module _ (words : List ℕ) (n : ℕ) (masks : List Mask) (full : AreFull words n masks (words_for n)) where
  full_padded : IsPadded n masks
  full_padded atom past = ⊎_elim
      (λ lt. full.padded (atom / 64) (atom % 64) lt (omega arith) (omega (arith, past)))
      (λ beyond. ap (λ (m : Mask). is_set m.care (atom % 64)) (get_or_past masks (atom / 64) no_mask (omega (arith, beyond, full.counted))) ∙ clear (atom % 64))
      (cases_lt (atom / 64) (words_for n))

  full_at : (atom : ℕ) → atom < n → literal_in masks atom ≡ Some (truth_in words atom)
  full_at atom lt =
      let within : atom / 64 < words_for n = omega (arith, lt) in
      literal_set (mask_at masks (atom / 64)) (atom % 64) (full.cares (atom / 64) (atom % 64) within (omega arith) (omega (arith, lt)))
      ∙ ap (λ w. Some (is_set w (atom % 64))) (full.signs (atom / 64) within)

  full_from : (count atom : ℕ) → atom + count ≤ n → literals_from masks atom count ≡ full_cube (truths_from words atom count)
  unfolding literals_from truths_from
  full_from zero atom le = refl
  full_from (suc count) atom le =
      ap (λ l. l ∷ literals_from masks (suc atom) count) (full_at atom (omega (arith, le)))
      ∙ ap (λ ls. Some (truth_in words atom) ∷ ls) (full_from count (suc atom) (omega (arith, le)))

  -- such masks are the full cube of the words, and have no other literals
  pub full_cube_is : literals_from masks 0 n ≡ full_cube (truths_from words 0 n)
  full_cube_is = full_from n 0 (omega arith)

  pub full_has_no_more : IsPadded n masks
  full_has_no_more = full_padded

-- before the first word there are no masks
pub full_none : (words : List ℕ) (n : ℕ) (masks : List Mask) → masks ≡ [] → AreFull words n masks 0
full_none words n masks none = record {
  counted = ap length none;
  signs = λ i lt. absurd (omega (arith, lt));
  cares = λ i j lt. absurd (omega (arith, lt));
  padded = λ i j lt. absurd (omega (arith, lt));
}

module _ (words : List ℕ) (n : ℕ) (masks more : List Mask) (count : ℕ) (full : AreFull words n masks count) (mask : Mask) (pushed : more ≡ masks ++ mask ∷ [])
    (sign : mask.sign ≡ slice_index_or words count 0)
    (below : (j : ℕ) → j < 64 → 64 * count + j < n → is_set mask.care j ≡ true)
    (above : (j : ℕ) → j < 64 → n ≤ 64 * count + j → is_set mask.care j ≡ false) where
  first_masks : (i : ℕ) → i < count → mask_at more i ≡ mask_at masks i
  first_masks i lt = ap (λ ms. mask_at ms i) pushed ∙ get_or_append_left masks (mask ∷ []) no_mask i (omega (arith, lt, full.counted))

  last_mask : (i : ℕ) → i ≡ count → mask_at more i ≡ mask
  last_mask i is = ap (λ ms. mask_at ms i) pushed ∙ get_or_push masks mask no_mask i (full.counted ∙ sym is)

  -- the mask of the next word
  pub full_more : AreFull words n more (count + 1)
  full_more = record {
    counted = ap length pushed ∙ length_push masks mask ∙ ap (λ k. k + 1) full.counted;
    signs = λ i lt. ⊎_elim
        (λ before. ap (λ (m : Mask). m.sign) (first_masks i before) ∙ full.signs i before)
        (λ from. let is : i ≡ count = omega (arith, lt, from) in ap (λ (m : Mask). m.sign) (last_mask i is) ∙ sign ∙ ap (λ k. slice_index_or words k 0) (sym is))
        (cases_lt i count);
    cares = λ i j lt small within. ⊎_elim
        (λ before. ap (λ (m : Mask). is_set m.care j) (first_masks i before) ∙ full.cares i j before small within)
        (λ from. let is : i ≡ count = omega (arith, lt, from) in ap (λ (m : Mask). is_set m.care j) (last_mask i is) ∙ below j small (omega (arith, within, is)))
        (cases_lt i count);
    padded = λ i j lt small past. ⊎_elim
        (λ before. ap (λ (m : Mask). is_set m.care j) (first_masks i before) ∙ full.padded i j before small past)
        (λ from. let is : i ≡ count = omega (arith, lt, from) in ap (λ (m : Mask). is_set m.care j) (last_mask i is) ∙ above j small (omega (arith, past, is)))
        (cases_lt i count);
  }
