-- Whether an item is the first that passes a test.
use Rattle.std.proofs.Common.{◌≡◌, ℕ, zero, suc, ◌+◌, ◌<◌, ◌||◌, not, nat_eq, Bool, true, false, List, [], ◌∷◌, Option, Some, None, is_some, take, slice_get, position, cond, map, refl, sym, ap, ◌∙◌, arith}
use Rattle.std.specs.List.{list_any, position_from}
use Rattle.std.specs.Option.{option_map_or}
use Rattle.std.specs.Str.{bytes_eq}
use Rattle.std.specs.Cmp.Lexicographic.{nat_list_eq_equiv, bytes_decides}
use Rattle.std.proofs.lemmas.Bool.Decides.{nat_tests}
use Rattle.std.proofs.lemmas.Iterator.Adapters.{position_from-zero}
use Rattle.fond_names.specs.Names.{is_among}

module _ {X : Type 0} (p : X → Bool) where
  -- an item that passes is the first if nothing before it passes
  at_first : (xs : List X) (i from : ℕ) (x : X) → slice_get xs i ≡ Some x → p x ≡ true → list_any p (take i xs) ≡ false → position_from p from xs ≡ Some (from + i)
  at_first [] i from x at pass none = cc
  at_first (y ∷ ys) zero from x at pass none = let same : p y ≡ true = cc in ap (λ b. cond b (Some from) (position_from p (from + 1) ys)) same ∙ ap (λ n. Some n) (omega arith)
  at_first (y ∷ ys) (suc i) from x at pass none = by (p y) none (at_first ys i (from + 1) x at pass)
    where
      by : (b : Bool) → (b || list_any p (take i ys)) ≡ false → (list_any p (take i ys) ≡ false → position_from p (from + 1) ys ≡ Some (from + 1 + i)) → cond b (Some from) (position_from p (from + 1) ys) ≡ Some (from + suc i)
      by true other later = cc
      by false other later = later other ∙ ap (λ n. Some n) (omega arith)

  -- if something before an index passes, the first is below that index
  not_first : (xs : List X) (i from number : ℕ) → list_any p (take i xs) ≡ true → position_from p from xs ≡ Some number → number < from + i
  not_first [] zero from number some e = cc
  not_first [] (suc i) from number some e = cc
  not_first (y ∷ ys) zero from number some e = cc
  not_first (y ∷ ys) (suc i) from number some e = by (p y) some e (not_first ys i (from + 1) number)
    where
      by : (b : Bool) → (b || list_any p (take i ys)) ≡ true → cond b (Some from) (position_from p (from + 1) ys) ≡ Some number → (list_any p (take i ys) ≡ true → position_from p (from + 1) ys ≡ Some number → number < from + 1 + i) → number < from + suc i
      by true other found later = let same : from ≡ number = cc in omega (arith, same)
      by false other found later = let low = later other found in omega (arith, low)

  -- there is a first that passes if and only if some item passes
  some_from : (xs : List X) (from : ℕ) → is_some (position_from p from xs) ≡ list_any p xs
  some_from [] from = refl
  some_from (y ∷ ys) from = by (p y) (some_from ys (from + 1))
    where
      by : (b : Bool) → is_some (position_from p (from + 1) ys) ≡ list_any p ys → is_some (cond b (Some from) (position_from p (from + 1) ys)) ≡ (b || list_any p ys)
      by true later = refl
      by false later = later

  -- an item that passes follows another one that does, unless it is the first
  is_first : (xs : List X) (i : ℕ) (x : X) → slice_get xs i ≡ Some x → p x ≡ true → position p xs ≡ Some i → list_any p (take i xs) ≡ false
  is_first xs i x at pass first = by (list_any p (take i xs)) refl
    where
      by : (b : Bool) → list_any p (take i xs) ≡ b → b ≡ false
      by true e = let low = not_first xs i 0 i e (sym (position_from-zero p xs) ∙ first) in absurd (omega (arith, low))
      by false e = refl

  is_later : (xs : List X) (i : ℕ) (x : X) → slice_get xs i ≡ Some x → p x ≡ true → (¬ position p xs ≡ Some i) → list_any p (take i xs) ≡ true
  is_later xs i x at pass other = by (list_any p (take i xs)) refl
    where
      by : (b : Bool) → list_any p (take i xs) ≡ b → b ≡ true
      by true e = refl
      by false e = absurd (other (position_from-zero p xs ∙ at_first xs i 0 x at pass e ∙ ap (λ n. Some n) (omega arith)))

-- a name is among those of some items if and only if one of them has it
among_names : {X : Type 0} (name : X → List ℕ) (xs : List X) (wanted : List ℕ) → is_among (map name xs) wanted ≡ list_any (λ x. bytes_eq (name x) wanted) xs
among_names name [] wanted = refl
among_names name (x ∷ xs) wanted = λ i. nat_list_eq_equiv.symm wanted (name x) i || among_names name xs wanted i

module _ {X : Type 0} (name : X → List ℕ) (xs : List X) (i : ℕ) (x : X) (at : slice_get xs i ≡ Some x) where
  itself : bytes_eq (name x) (name x) ≡ true
  itself = (bytes_decides (name x) (name x)).1 refl

  -- an item has the name of an earlier one if the first of this name is elsewhere
  repeats_elsewhere : (number : ℕ) → position (λ y. bytes_eq (name y) (name x)) xs ≡ Some number → not (nat_eq number i) ≡ is_among (map name (take i xs)) (name x)
  repeats_elsewhere number found = by (nat_eq number i) refl ∙ sym (among_names name (take i xs) (name x))
    where
      by : (b : Bool) → nat_eq number i ≡ b → not b ≡ list_any (λ y. bytes_eq (name y) (name x)) (take i xs)
      by true e = let same : number ≡ i = grind (arith, nat_tests) in sym (is_first (λ y. bytes_eq (name y) (name x)) xs i x at itself (found ∙ ap (λ n. Some n) same))
      by false e = sym (is_later (λ y. bytes_eq (name y) (name x)) xs i x at itself (λ first. let same : number ≡ i = cc in grind (arith, nat_tests)))

  repeats_nowhere : position (λ y. bytes_eq (name y) (name x)) xs ≡ None → true ≡ is_among (map name (take i xs)) (name x)
  repeats_nowhere none = sym (is_later (λ y. bytes_eq (name y) (name x)) xs i x at itself (λ first. cc)) ∙ sym (among_names name (take i xs) (name x))

  pub repeats : (first : Option ℕ) → position (λ y. bytes_eq (name y) (name x)) xs ≡ first →
      not (option_map_or (λ number. nat_eq number i) first false) ≡ is_among (map name (take i xs)) (name x)
  repeats (Some number) found = repeats_elsewhere number found
  repeats None none = repeats_nowhere none

-- a name has a first place if and only if it is among those of the items
pub among_position : {X : Type 0} (name : X → List ℕ) (xs : List X) (wanted : List ℕ) → is_some (position (λ x. bytes_eq (name x) wanted) xs) ≡ is_among (map name xs) wanted
among_position name xs wanted =
    ap (λ f. is_some f) (position_from-zero (λ x. bytes_eq (name x) wanted) xs) ∙ some_from (λ x. bytes_eq (name x) wanted) xs 0 ∙ sym (among_names name xs wanted)
