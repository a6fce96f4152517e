-- Types by their numbers, and their ancestors.
use Rattle.std.proofs.Common.{◌≡◌, ◌⊎◌, ℕ, ◌+◌, ◌<◌, ◌||◌, Bool, true, false, List, [], ◌∷◌, Option, Some, None, is_some, length, get_or, position, cond, refl, sym, ap, ◌∙◌, subst, inl, inr}
use Rattle.std.specs.Prelude.{find}
use Rattle.std.specs.Option.{option_map_or}
use Rattle.std.specs.List.{list_any, position_from, flat_map}
use Rattle.std.specs.Str.{bytes_eq}
use Rattle.std.specs.Cmp.Lexicographic.{nat_list_eq_equiv, bytes_decides}
use Rattle.std.proofs.lemmas.Iterator.Adapters.{position_from-zero}
use Rattle.std.proofs.lemmas.List.Quantifiers.{position-Some}
use Rattle.fond_ast.specs.declared.names.TypedName.{TypedName}
use Rattle.fond_kinds.specs.Kinds.{root, only_kind, declares, type_of, parent_of, is_type, IsAncestor, parent, onward, IsSubtype}
use Rattle.fond_kinds.specs.Parents as numbers
use Rattle.fond_kinds.specs.Parents.{IsBelow, here, up}
use Rattle.fond_kinds.specs.Tables.{type_names, number_of}

pub or-true : (b : Bool) → (b || true) ≡ true
or-true true = refl
or-true false = refl

module _ {X : Type 0} (p : X → Bool) where
  -- there is a first item that passes if and only if some item passes
  some_from : (xs : List X) (from : ℕ) → is_some (position_from p from xs) ≡ list_any p xs
  some_from [] from = refl
  some_from (y ∷ ys) from = by (p y) (some_from ys (from + 1))
    where
      by : (b : Bool) → is_some (position_from p (from + 1) ys) ≡ list_any p ys → is_some (cond b (Some from) (position_from p (from + 1) ys)) ≡ (b || list_any p ys)
      by true later = refl
      by false later = later

  pub some_position : (xs : List X) → is_some (position p xs) ≡ list_any p xs
  some_position xs = ap (λ f. is_some f) (position_from-zero p xs) ∙ some_from xs 0

  -- what is found passes
  pub found_passes : (xs : List X) (x : X) → find p xs ≡ Some x → p x ≡ true
  found_passes [] x found = cc
  found_passes (y ∷ ys) x found = by (p y) refl found (found_passes ys x)
    where
      by : (b : Bool) → p y ≡ b → cond b (Some y) (find p ys) ≡ Some x → (find p ys ≡ Some x → p x ≡ true) → p x ≡ true
      by true pass is later = let same : y ≡ x = cc in ap p (sym same) ∙ pass
      by false pass is later = later is

  -- some item passes a test that what is found passes
  pub found_any : (q : X → Bool) (xs : List X) (x : X) → find p xs ≡ Some x → q x ≡ true → list_any q xs ≡ true
  found_any q [] x found pass = cc
  found_any q (y ∷ ys) x found pass = by (p y) found (found_any q ys x)
    where
      by : (b : Bool) → cond b (Some y) (find p ys) ≡ Some x → (find p ys ≡ Some x → q x ≡ true → list_any q ys ≡ true) → (q y || list_any q ys) ≡ true
      by true is later = let same : y ≡ x = cc in ap (λ b. b || list_any q ys) (ap q same ∙ pass)
      by false is later = ap (λ b. q y || b) (later is pass) ∙ or-true (q y)

-- a name is among those of types if and only if it is declared
names_any : (types : List TypedName) (name : List ℕ) → list_any (λ other. bytes_eq other name) (flat_map (λ declared. declared.name ∷ only_kind declared ∷ []) types)
    ≡ list_any (λ declared. bytes_eq declared.name name || bytes_eq (only_kind declared) name) types
names_any [] name = refl
names_any (declared ∷ types) name = ap (λ b. bytes_eq declared.name name || (bytes_eq (only_kind declared) name || b)) (names_any types name) ∙ sym (or-assoc (bytes_eq declared.name name) (bytes_eq (only_kind declared) name) _)
  where
    or-assoc : (a b c : Bool) → ((a || b) || c) ≡ (a || (b || c))
    or-assoc true b c = refl
    or-assoc false b c = refl

pub known : (types : List TypedName) (name : List ℕ) → is_some (number_of types name) ≡ is_type types name
known types name =
    some_position (λ other. bytes_eq other name) (type_names types)
    ∙ ap (λ b. bytes_eq root name || b) (names_any types name)
    ∙ ap (λ b. b || list_any (λ declared. bytes_eq declared.name name || bytes_eq (only_kind declared) name) types) (nat_list_eq_equiv.symm root name)

-- the name of a number, and the number of `object`
pub named : (types : List TypedName) (name : List ℕ) (number : ℕ) → number_of types name ≡ Some number → get_or (type_names types) number [] ≡ name
named types name number known = (bytes_decides _ _).0 (position-Some (λ other. bytes_eq other name) (type_names types) number [] known).1

pub number_within : (types : List TypedName) (name : List ℕ) (number : ℕ) → number_of types name ≡ Some number → number < length (type_names types)
number_within types name number known = (position-Some (λ other. bytes_eq other name) (type_names types) number [] known).0

pub same_name : (types : List TypedName) (name other : List ℕ) (number : ℕ) → number_of types name ≡ Some number → number_of types other ≡ Some number → name ≡ other
same_name types name other number one two = sym (named types name number one) ∙ named types other number two

pub root_number : (types : List TypedName) → number_of types root ≡ Some 0
root_number types = position_from-zero (λ other. bytes_eq other root) (type_names types)

pub some_is : {X : Type 0} (o : Option X) → is_some o ≡ true → (x : X) × (o ≡ Some x)
some_is None off = cc
some_is (Some x) on = (x, refl)

-- a parent has a number
pub parent_numbered : (types : List TypedName) (name : List ℕ) → (number : ℕ) × (number_of types (parent_of types name) ≡ Some number)
parent_numbered types name = by (type_of types name) refl
  where
    by : (o : Option TypedName) → type_of types name ≡ o → (number : ℕ) × (number_of types (option_map_or only_kind o root) ≡ Some number)
    by None none = (0, root_number types)
    by (Some declared) found =
        let itself : bytes_eq (only_kind declared) (only_kind declared) ≡ true = (bytes_decides (only_kind declared) (only_kind declared)).1 refl in
        let either : (bytes_eq declared.name (only_kind declared) || bytes_eq (only_kind declared) (only_kind declared)) ≡ true = ap (λ b. bytes_eq declared.name (only_kind declared) || b) itself ∙ or-true (bytes_eq declared.name (only_kind declared)) in
        let any = found_any (declares name) (λ one. bytes_eq one.name (only_kind declared) || bytes_eq (only_kind one) (only_kind declared)) types declared found either in
        let type : is_type types (only_kind declared) ≡ true = ap (λ b. bytes_eq (only_kind declared) root || b) any ∙ or-true (bytes_eq (only_kind declared) root) in
        some_is (number_of types (only_kind declared)) (known types (only_kind declared) ∙ type)

module _ (types : List TypedName) (parents : List (Option ℕ)) (ascends : (name : List ℕ) (number : ℕ) → number_of types name ≡ Some number → numbers.parent_of parents number ≡ number_of types (parent_of types name)) where
  -- an ancestor is above by number
  pub ancestor_above : (name above : List ℕ) (n m : ℕ) → number_of types name ≡ Some n → number_of types above ≡ Some m → IsAncestor types name above → (p : ℕ) × (numbers.parent_of parents n ≡ Some p) × IsBelow parents p m
  ancestor_above name above n m one two (parent a) = (m, ascends name n one ∙ two, here m)
  ancestor_above name above n m one two (onward a b rest) =
      let (k, its) = parent_numbered types name in
      let (p, next, below) = ancestor_above (parent_of types name) above k m its two rest in
      (k, ascends name n one ∙ its, up k p m next below)

  -- what is above by number is an ancestor or the type itself
  pub above_ancestor : (n m : ℕ) → IsBelow parents n m → (name above : List ℕ) → number_of types name ≡ Some n → number_of types above ≡ Some m → (name ≡ above) ⊎ IsAncestor types name above
  above_ancestor n m (here k) name above one two = inl (same_name types name above k one two)
  above_ancestor n m (up k p l next rest) name above one two =
      elim (above_ancestor p l rest (parent_of types name) above (sym (ascends name k one) ∙ next) two) [
        | inl same ↦ inr (subst (λ z. IsAncestor types name z) same (parent name))
        | inr more ↦ inr (onward name above more)
      ]

  -- subtypes by number, unless the other type is `object`
  pub subtype_below : (name above : List ℕ) (n m : ℕ) → number_of types name ≡ Some n → number_of types above ≡ Some m → (m ≡ 0 → ⊥) → IsSubtype types name above → IsBelow parents n m
  subtype_below name above n m one two other (inl same) =
      let equal : Some n ≡ Some m = sym one ∙ ap (number_of types) same ∙ two in
      let is : n ≡ m = cc in
      subst (λ z. IsBelow parents n z) is (here n)
  subtype_below name above n m one two other (inr (inl more)) = let (p, next, below) = ancestor_above name above n m one two more in up n p m next below
  subtype_below name above n m one two other (inr (inr top)) =
      let zero_ : Some m ≡ Some 0 = sym two ∙ ap (number_of types) top ∙ root_number types in
      let is : m ≡ 0 = cc in
      absurd (other is)

  -- the type of number 0 is `object`
  pub zero_subtype : (name above : List ℕ) → number_of types above ≡ Some 0 → IsSubtype types name above
  zero_subtype name above two = inr (inr (same_name types above root 0 two (root_number types)))

  pub below_subtype : (name above : List ℕ) (n m : ℕ) → number_of types name ≡ Some n → number_of types above ≡ Some m → IsBelow parents n m → IsSubtype types name above
  below_subtype name above n m one two below = elim (above_ancestor n m below name above one two) [ inl same ↦ inl same | inr more ↦ inr (inl more) ]

  -- a type is its own ancestor if and only if it is above its parent by number
  pub own_ancestor : (name : List ℕ) (n p : ℕ) → number_of types name ≡ Some n → numbers.parent_of parents n ≡ Some p → IsBelow parents p n → IsAncestor types name name
  own_ancestor name n p one next below =
      elim (above_ancestor p n below (parent_of types name) name (sym (ascends name n one) ∙ next) one) [
        | inl same ↦ subst (λ z. IsAncestor types name z) same (parent name)
        | inr more ↦ onward name name more
      ]

  pub own_ancestor_below : (name : List ℕ) (n p : ℕ) → number_of types name ≡ Some n → numbers.parent_of parents n ≡ Some p → IsAncestor types name name → IsBelow parents p n
  own_ancestor_below name n p one next own =
      let (q, its, below) = ancestor_above name name n n one one own in
      let both : Some q ≡ Some p = sym its ∙ next in
      let same : q ≡ p = cc in
      subst (λ z. IsBelow parents z n) same below

  pub not_own_ancestor : (name : List ℕ) (n : ℕ) → number_of types name ≡ Some n → numbers.parent_of parents n ≡ None → IsAncestor types name name → ⊥
  not_own_ancestor name n one none own =
      let (q, its, below) = ancestor_above name name n n one one own in
      let clash : Some q ≡ None = sym its ∙ none in cc
