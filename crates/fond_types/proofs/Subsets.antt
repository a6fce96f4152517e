-- The range of types that fit those of a parameter is part of the parameter's range.
use Rattle.std.proofs.Common.{◌≡◌, inl, inr, ℕ, zero, suc, ◌+◌, ◌<◌, ◌≤◌, ◌&&◌, nat_lt, Bool, true, false, List, [], ◌∷◌, Some, length, slice_get, refl, sym, ap, ◌∙◌, subst, arith}
use Rattle.std.specs.Prelude.{◌==◌, if◌then◌else◌}
use Rattle.std.specs.List.{list_all}
use Rattle.std.specs.Cmp.Lexicographic.{bytes_decides}
use Rattle.std.proofs.lemmas.Bool.Decides.{nat_tests}
use Rattle.fond_ast.specs.Ranges.{is_among, is_rising}
use Rattle.fond_ast.specs.declared.names.Kind.{Kind}
use Rattle.fond_ast.specs.declared.names.TypedName.{TypedName}
use Rattle.fond_kinds.specs.Kinds.{root, only_kind, is_type, parent_of, IsAncestor, parent, onward, IsSubtype}
use Rattle.fond_types.specs.Kept.{is_of, numbers_of}
use Rattle.fond_types.specs.Meanings.{has_root}
use Rattle.fond_names.specs.Same.{kind_names}
use Rattle.fond_names.specs.Subtypes.{is_subtype, is_below, is_below_some}
use Rattle.fond_names.proofs.Ancestors.{subtype_decides}
use Rattle.fond_names.proofs.Members.{and_parts, and_both, or_cases, or_left, or_right}
use Rattle.fond_types.proofs.RangeLemmas.{numbers_more}

module _ (types : List TypedName) (rooted : has_root types ≡ true) where
  above_root : parent_of types root ≡ root
  above_root = (bytes_decides (parent_of types root) root).0 rooted

  top : {name above : List ℕ} → IsAncestor types name above → name ≡ root → above ≡ root
  top (parent name) same = ap (parent_of types) same ∙ above_root
  top (onward name above later) same = top later (ap (parent_of types) same ∙ above_root)

  longer : {a b : List ℕ} (c : List ℕ) → IsAncestor types a b → IsAncestor types b c → IsAncestor types a c
  longer c (parent name) path = onward name c path
  longer c (onward name above later) path = onward name c (longer c later path)

  chain : (a b c : List ℕ) → IsSubtype types a b → IsSubtype types b c → IsSubtype types a c
  chain a b c (inl same) h = subst (λ (name : List ℕ). IsSubtype types name c) (sym same) h
  chain a b c (inr (inl path)) (inl same) = inr (inl (subst (λ (name : List ℕ). IsAncestor types a name) same path))
  chain a b c (inr (inl path)) (inr (inl more)) = inr (inl (longer c path more))
  chain a b c (inr (inl path)) (inr (inr at_top)) = inr (inr at_top)
  chain a b c (inr (inr at_top)) (inl same) = inr (inr (sym same ∙ at_top))
  chain a b c (inr (inr at_top)) (inr (inl more)) = inr (inr (top more at_top))
  chain a b c (inr (inr at_top)) (inr (inr top_too)) = inr (inr top_too)

  -- subtypes of a subtype are subtypes
  pub subtype_chain : (a b c : List ℕ) → is_subtype types a b ≡ true → is_subtype types b c ≡ true → is_subtype types a c ≡ true
  subtype_chain a b c p q = (subtype_decides types a c).1 (chain a b c ((subtype_decides types a b).0 p) ((subtype_decides types b c).0 q))

  of_parameter : (object : TypedName) (name : List ℕ) (parameter : List Kind) → is_subtype types (only_kind object) name ≡ true → is_below_some types name parameter ≡ true → is_of types (kind_names parameter) object ≡ true
  of_parameter object name [] p q = cc
  of_parameter object name (other ∷ parameter) p q =
      elim (or_cases (is_below types name other.name) (is_below_some types name parameter) q) [
        | inl here ↦ or_left (is_subtype types (only_kind object) other.name) (is_of types (kind_names parameter) object)
            (subtype_chain (only_kind object) name other.name p (and_parts (is_type types name && is_type types other.name) (is_subtype types name other.name) here).1)
        | inr later ↦ or_right (is_subtype types (only_kind object) other.name) (is_of types (kind_names parameter) object) (of_parameter object name parameter p later)
      ]

  -- an object of types that fit a parameter is one of the parameter's types
  pub of_fitting : (object : TypedName) (kinds parameter : List Kind) → list_all (λ kind. is_below_some types kind.name parameter) kinds ≡ true → is_of types (kind_names kinds) object ≡ true → is_of types (kind_names parameter) object ≡ true
  of_fitting object [] parameter fits is = cc
  of_fitting object (kind ∷ kinds) parameter fits is =
      let both = and_parts (is_below_some types kind.name parameter) (list_all (λ one. is_below_some types one.name parameter) kinds) fits in
      elim (or_cases (is_subtype types (only_kind object) kind.name) (is_of types (kind_names kinds) object) is) [
        | inl here ↦ of_parameter object kind.name parameter here both.0
        | inr later ↦ of_fitting object kinds parameter both.1 later
      ]

all_wider : (range : List ℕ) (number : ℕ) (numbers : List ℕ) → list_all (is_among range) numbers ≡ true → list_all (is_among (number ∷ range)) numbers ≡ true
all_wider range number [] all = refl
all_wider range number (n ∷ numbers) all =
    let both = and_parts (is_among range n) (list_all (is_among range) numbers) all in
    and_both (is_among (number ∷ range) n) (list_all (is_among (number ∷ range)) numbers) (or_right (number == n) (is_among range n) both.0) (all_wider range number numbers both.1)

pub same_number : (n : ℕ) → (n == n) ≡ true
same_number n = grind (arith, nat_tests)

module _ (types : List TypedName) (names : List (List ℕ)) where
  -- numbers of objects that pass one test pass a wider one
  pub numbers_within : (wider : List (List ℕ)) (number : ℕ) (objects : List TypedName) → ((object : TypedName) → is_of types names object ≡ true → is_of types wider object ≡ true) → list_all (is_among (numbers_of types wider number objects)) (numbers_of types names number objects) ≡ true
  numbers_within wider number [] over = refl
  numbers_within wider number (object ∷ objects) over =
      let rest = numbers_within wider (number + 1) objects over in
      ap (list_all (is_among (numbers_of types wider number (object ∷ objects)))) (numbers_more types names number object objects)
      ∙ ap (λ range. list_all (is_among range) (if is_of types names object then number ∷ numbers_of types names (number + 1) objects else numbers_of types names (number + 1) objects)) (numbers_more types wider number object objects)
      ∙ by (is_of types names object) refl (is_of types wider object) refl rest
    where
      by : (b : Bool) → is_of types names object ≡ b → (d : Bool) → is_of types wider object ≡ d → list_all (is_among (numbers_of types wider (number + 1) objects)) (numbers_of types names (number + 1) objects) ≡ true →
          list_all (is_among (if d then number ∷ numbers_of types wider (number + 1) objects else numbers_of types wider (number + 1) objects)) (if b then number ∷ numbers_of types names (number + 1) objects else numbers_of types names (number + 1) objects) ≡ true
      by true e false f rest = let other : false ≡ true = sym f ∙ over object e in absurd (cc (other))
      by true e true f rest =
          and_both (is_among (number ∷ numbers_of types wider (number + 1) objects) number) _ (or_left (number == number) (is_among (numbers_of types wider (number + 1) objects) number) (same_number number))
          (all_wider (numbers_of types wider (number + 1) objects) number (numbers_of types names (number + 1) objects) rest)
      by false e true f rest = all_wider (numbers_of types wider (number + 1) objects) number (numbers_of types names (number + 1) objects) rest
      by false e false f rest = rest

  -- the number of an object that passes is among the numbers
  pub number_among : (number : ℕ) (objects : List TypedName) (at : ℕ) (object : TypedName) → slice_get objects at ≡ Some object → is_of types names object ≡ true → is_among (numbers_of types names number objects) (number + at) ≡ true
  number_among number [] at object got is = cc
  number_among number (first ∷ objects) zero object got is =
      let same : first ≡ object = cc in
      ap (λ range. is_among range (number + 0)) (numbers_more types names number first objects ∙ ap (λ (one : TypedName). if is_of types names one then number ∷ numbers_of types names (number + 1) objects else numbers_of types names (number + 1) objects) same
      ∙ ap (λ b. if b then number ∷ numbers_of types names (number + 1) objects else numbers_of types names (number + 1) objects) is)
      ∙ or_left (number == (number + 0)) (is_among (numbers_of types names (number + 1) objects) (number + 0)) (grind (arith, nat_tests))
  number_among number (first ∷ objects) (suc at) object got is =
      let rest = number_among (number + 1) objects at object got is in
      let here : number + 1 + at ≡ number + suc at = omega arith in
      ap (λ range. is_among range (number + suc at)) (numbers_more types names number first objects) ∙ by (is_of types names first) (ap (is_among (numbers_of types names (number + 1) objects)) (sym here) ∙ rest)
    where
      by : (b : Bool) → is_among (numbers_of types names (number + 1) objects) (number + suc at) ≡ true → is_among (if b then number ∷ numbers_of types names (number + 1) objects else numbers_of types names (number + 1) objects) (number + suc at) ≡ true
      by true rest = or_right (number == (number + suc at)) (is_among (numbers_of types names (number + 1) objects) (number + suc at)) rest
      by false rest = rest

  rising_from : (before number : ℕ) (objects : List TypedName) → before < number → is_rising (before ∷ numbers_of types names number objects) ≡ true
  rising_from before number [] low = refl
  rising_from before number (object ∷ objects) low =
      ap (λ range. is_rising (before ∷ range)) (numbers_more types names number object objects)
      ∙ by (is_of types names object) (rising_from number (number + 1) objects (omega (arith))) (rising_from before (number + 1) objects (omega (arith, low)))
    where
      by : (b : Bool) → is_rising (number ∷ numbers_of types names (number + 1) objects) ≡ true → is_rising (before ∷ numbers_of types names (number + 1) objects) ≡ true →
          is_rising (before ∷ (if b then number ∷ numbers_of types names (number + 1) objects else numbers_of types names (number + 1) objects)) ≡ true
      by true own rest = and_both (nat_lt before number) (is_rising (number ∷ numbers_of types names (number + 1) objects)) (grind (arith, nat_tests)) own
      by false own rest = rest

  -- the numbers rise
  pub numbers_rise : (number : ℕ) (objects : List TypedName) → is_rising (numbers_of types names number objects) ≡ true
  numbers_rise number [] = refl
  numbers_rise number (object ∷ objects) =
      ap is_rising (numbers_more types names number object objects) ∙ by (is_of types names object) (rising_from number (number + 1) objects (omega arith)) (numbers_rise (number + 1) objects)
    where
      by : (b : Bool) → is_rising (number ∷ numbers_of types names (number + 1) objects) ≡ true → is_rising (numbers_of types names (number + 1) objects) ≡ true → is_rising (if b then number ∷ numbers_of types names (number + 1) objects else numbers_of types names (number + 1) objects) ≡ true
      by true own rest = own
      by false own rest = rest

  -- the numbers are below that of the end
  pub numbers_below : (number count : ℕ) (objects : List TypedName) → number + length objects ≤ count → list_all (λ object. nat_lt object count) (numbers_of types names number objects) ≡ true
  numbers_below number count [] fits = refl
  numbers_below number count (object ∷ objects) fits =
      ap (list_all (λ one. nat_lt one count)) (numbers_more types names number object objects) ∙ by (is_of types names object) (numbers_below (number + 1) count objects (omega (arith, fits)))
    where
      by : (b : Bool) → list_all (λ one. nat_lt one count) (numbers_of types names (number + 1) objects) ≡ true → list_all (λ one. nat_lt one count) (if b then number ∷ numbers_of types names (number + 1) objects else numbers_of types names (number + 1) objects) ≡ true
      by true rest = let low : number < count = omega (arith, fits) in and_both (nat_lt number count) _ (grind (arith, nat_tests)) rest
      by false rest = rest
