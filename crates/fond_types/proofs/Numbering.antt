-- Names beside their numbers, looked up and added to.
use Rattle.std.proofs.Common.{◌≡◌, ℕ, suc, ◌+◌, ◌<◌, ◌&&◌, ◌||◌, not, Bool, true, false, List, [], ◌∷◌, ◌++◌, Option, Some, None, is_some, length, nat_lt, slice_index_or, refl, sym, ap, ◌∙◌, arith}
use Rattle.std.specs.Prelude.{if◌then◌else◌}
use Rattle.std.specs.Option.{option_or}
use Rattle.std.specs.Str.{bytes_eq}
use Rattle.std.specs.Cmp.Lexicographic.{nat_list_eq_equiv}
use Rattle.std.proofs.lemmas.Bool.Decides.{nat_tests}
use Rattle.fond_store.specs.Texts.{number_beside, InsertsText}
use Rattle.fond_types.specs.Meanings.{IsNumbering, numbered_from, name_also}
use Rattle.fond_names.specs.Names.{is_among}
use Rattle.fond_types.specs.Resolves.{is_number_of}

pub negated : (a b : Bool) → a ≡ not b → b ≡ not a
negated a true e = sym (ap not e)
negated a false e = sym (ap not e)

some_if : (b c : Bool) (number : ℕ) (rest : Option ℕ) → is_some rest ≡ c → is_some (if b then Some number else rest) ≡ (b || c)
some_if true c number rest e = refl
some_if false c number rest e = e

-- a name has a number if and only if it is one of the names
pub has_number : (number : ℕ) (names : List (List ℕ)) (name : List ℕ) → is_some (number_beside (numbered_from number names) name) ≡ is_among names name
has_number number [] name = refl
has_number number (first ∷ names) name =
    some_if (bytes_eq first name) (is_among names name) number (number_beside (numbered_from (suc number) names) name) (has_number (suc number) names name)
    ∙ ap (λ b. b || is_among names name) (nat_list_eq_equiv.symm first name)

-- the number of a name among names with one more is its number among those before, or else the next one if it is the one more
numbered_after : (number count : ℕ) (names : List (List ℕ)) (name other : List ℕ) → count ≡ number + length names →
    number_beside (numbered_from number (names ++ name ∷ [])) other ≡ option_or (number_beside (numbered_from number names) other) (if bytes_eq name other then Some count else None)
numbered_after number count [] name other e = ap (λ n. if bytes_eq name other then Some n else None) (omega (arith, e))
numbered_after number count (first ∷ names) name other e = by (bytes_eq first other) (numbered_after (suc number) count names name other (omega (arith, e)))
  where
    by : (b : Bool) → number_beside (numbered_from (suc number) (names ++ name ∷ [])) other ≡ option_or (number_beside (numbered_from (suc number) names) other) (if bytes_eq name other then Some count else None) →
        (if b then Some number else number_beside (numbered_from (suc number) (names ++ name ∷ [])) other) ≡ option_or (if b then Some number else number_beside (numbered_from (suc number) names) other) (if bytes_eq name other then Some count else None)
    by true later = refl
    by false later = later

module _ (numbers : List (List ℕ × ℕ)) (names : List (List ℕ)) (are : IsNumbering numbers names) (name : List ℕ) where
  -- a name has one of the numbers of the names if and only if it is one of them
  is_there : is_some (number_beside numbers name) ≡ is_among names name
  is_there = ap is_some (are name) ∙ has_number 0 names name

  -- a name that is there changes nothing
  pub declared_there : is_some (number_beside numbers name) ≡ true → name_also names name ≡ names
  declared_there found = ap (λ b. if b then names else names ++ name ∷ []) (sym is_there ∙ found)

  -- another name comes after the others
  pub declared_new : is_some (number_beside numbers name) ≡ false → name_also names name ≡ names ++ name ∷ []
  declared_new none = ap (λ b. if b then names else names ++ name ∷ []) (sym is_there ∙ none)

  -- another name gains the next number
  pub numbered_new : is_some (number_beside numbers name) ≡ false → (count : ℕ) (more : List (List ℕ × ℕ)) → count ≡ length names → InsertsText numbers name count more → IsNumbering more (name_also names name)
  numbered_new none count more counted grown other =
      grown other ∙ ap (λ found. option_or found (if bytes_eq name other then Some count else None)) (are other)
      ∙ sym (numbered_after 0 count names name other (omega (arith, counted))) ∙ ap (λ some. number_beside (numbered_from 0 some) other) (sym (declared_new none))

-- a number that is so much above the first one, and the name at that index
pub record IsAt (from : ℕ) (names : List (List ℕ)) (name : List ℕ) (number : ℕ) : Type 0 where
  pub at : ℕ
  pub counted : number ≡ from + at
  pub within : at < length names
  pub is : bytes_eq (slice_index_or names at []) name ≡ true

at_first : (from : ℕ) (first : List ℕ) (names : List (List ℕ)) (name : List ℕ) (number : ℕ) (same : Bool) → bytes_eq first name ≡ same →
    (if same then Some from else number_beside (numbered_from (suc from) names) name) ≡ Some number → (number_beside (numbered_from (suc from) names) name ≡ Some number → IsAt (suc from) names name number) → IsAt from (first ∷ names) name number
at_first from first names name number true is e later =
    let same : from ≡ number = cc in
    record { at = 0; counted = omega (arith, same); within = omega arith; is = is }
at_first from first names name number false is e later =
    let found = later e in
    let counted = found.counted in
    let within = found.within in
    record { at = suc found.at; counted = omega (arith, counted); within = omega (arith, within); is = found.is }

-- the number beside a name is its own
number_within : (from : ℕ) (names : List (List ℕ)) (name : List ℕ) (number : ℕ) → number_beside (numbered_from from names) name ≡ Some number → IsAt from names name number
number_within from [] name number e = cc
number_within from (first ∷ names) name number e = at_first from first names name number (bytes_eq first name) refl e (number_within (suc from) names name number)

-- the number beside a name is that of the name in the list of names
pub number_is : (names : List (List ℕ)) (name : List ℕ) (number : ℕ) → number_beside (numbered_from 0 names) name ≡ Some number → is_number_of names name number ≡ true
number_is names name number e =
    let found = number_within 0 names name number e in
    let counted = found.counted in
    let low = found.within in
    let same : number ≡ found.at = omega (arith, counted) in
    let within : nat_lt number (length names) ≡ true = grind (arith, nat_tests, same, low) in
    ap (λ b. b && bytes_eq (slice_index_or names number []) name) within ∙ ap (λ n. bytes_eq (slice_index_or names n []) name) same ∙ found.is
