-- The objects of some types, by their numbers.
use Rattle.std.proofs.Common.{◌≡◌, ℕ, zero, suc, ◌+◌, ◌<◌, ◌&&◌, ◌||◌, Bool, true, false, cond, List, [], ◌∷◌, ◌++◌, Some, find, map, filter, length, drop, slice_get, refl, sym, ap, ◌∙◌, arith, append_assoc}
use Rattle.std.specs.Prelude.{if◌then◌else◌}
use Rattle.std.specs.List.{list_any, list_all, enumerate_from}
use Rattle.std.specs.Str.{bytes_eq}
use Rattle.std.proofs.lemmas.Option.{slice_get_within, get_or_from_slice_get}
use Rattle.fond_ast.specs.declared.names.Kind.{Kind}
use Rattle.fond_ast.specs.declared.names.TypedName.{TypedName}
use Rattle.fond_kinds.specs.Kinds.{only_kind, is_type, are_types}
use Rattle.fond_types.specs.Kept.{is_of, numbers_of, range_by}
use Rattle.fond_types.specs.Meanings.{meanings}
use Rattle.fond_names.specs.Names.{Declarations, firsts, objects_declared}
use Rattle.fond_names.specs.Same.{kind_names}
use Rattle.fond_names.specs.Subtypes.{is_subtype, is_below, is_below_some}
use Rattle.fond_names.proofs.Differs.{next_left, same_text}
use Rattle.fond_types.proofs.Firsts.{item_of_number}
use Rattle.fond_names.proofs.Members.{and_parts}

-- a test that all items pass is passed by the one that is found
pub found_passes : {X : Type 0} (p q : X → Bool) (xs : List X) (x : X) → find p xs ≡ Some x → list_all q xs ≡ true → q x ≡ true
found_passes p q [] x found all = cc
found_passes p q (y ∷ xs) x found all = by (p y) found (and_parts (q y) (list_all q xs) all) (found_passes p q xs x)
  where
    by : (b : Bool) → cond b (Some y) (find p xs) ≡ Some x → (q y ≡ true) × (list_all q xs ≡ true) → (find p xs ≡ Some x → list_all q xs ≡ true → q x ≡ true) → q x ≡ true
    by true found both later = let same : y ≡ x = cc in ap q (sym same) ∙ both.0
    by false found both later = later found both.1

-- the item of a number is the first of its name
pub item_named : {A : Type 0} (name : A → List ℕ) (items : List A) (names : List (List ℕ)) (number : ℕ) (wanted : List ℕ) → names ≡ map name (firsts name items) → slice_get names number ≡ Some wanted →
    slice_get (firsts name items) number ≡ find (λ item. bytes_eq (name item) wanted) items
item_named name items names number wanted are got =
    let here : slice_get (map name (firsts name items)) number ≡ Some wanted = ap (λ some. slice_get some number) (sym are) ∙ got in
    item_of_number name items number wanted (slice_get_within (map name (firsts name items)) number wanted here)
    (ap (λ text. bytes_eq text wanted) (get_or_from_slice_get (map name (firsts name items)) number wanted [] here) ∙ same_text wanted)

-- among declared types, one that is below some type is a subtype of its name
pub below_is : (types : List TypedName) (name : List ℕ) (kinds : List Kind) → is_type types name ≡ true → are_types types kinds ≡ true → is_below_some types name kinds ≡ list_any (is_subtype types name) (kind_names kinds)
below_is types name [] own all = refl
below_is types name (kind ∷ kinds) own all =
    let both = and_parts (is_type types kind.name) (are_types types kinds) all in
    let here : is_below types name kind.name ≡ is_subtype types name kind.name = λ i. own i && both.0 i && is_subtype types name kind.name in
    λ i. here i || below_is types name kinds own both.1 i

-- the range of types is that of their names
pub range_named : (files : Declarations) (kinds : List Kind) → (meanings files).range kinds ≡ range_by files (kind_names kinds)
range_named files kinds = λ i. map (λ item. item.0) (filter (λ item. any_named (is_subtype files.domain.kinds (only_kind item.1)) kinds i) (enumerate_from 0 (objects_declared files)))
  where
    any_named : (p : List ℕ → Bool) (some : List Kind) → list_any (λ kind. p kind.name) some ≡ list_any p (kind_names some)
    any_named p [] = refl
    any_named p (kind ∷ some) = ap (λ b. p kind.name || b) (any_named p some)

module _ (types : List TypedName) (names : List (List ℕ)) where
  pub numbers_more : (number : ℕ) (object : TypedName) (rest : List TypedName) → numbers_of types names number (object ∷ rest) ≡ (if is_of types names object then number ∷ numbers_of types names (number + 1) rest else numbers_of types names (number + 1) rest)
  numbers_more number object rest = by (is_of types names object)
    where
      by : (b : Bool) → map (λ (item : ℕ × TypedName). item.0) (cond b ((number, object) ∷ filter (λ item. is_of types names item.1) (enumerate_from (number + 1) rest)) (filter (λ item. is_of types names item.1) (enumerate_from (number + 1) rest)))
          ≡ (if b then number ∷ numbers_of types names (number + 1) rest else numbers_of types names (number + 1) rest)
      by true = refl
      by false = refl

  module _ (range : List ℕ) (objects : List TypedName) (i : ℕ) (object : TypedName) (got : slice_get objects i ≡ Some object) (whole : List ℕ) (before : range ++ numbers_of types names i (drop i objects) ≡ whole) where
    left : numbers_of types names i (drop i objects) ≡ (if is_of types names object then i ∷ numbers_of types names (i + 1) (drop (i + 1) objects) else numbers_of types names (i + 1) (drop (i + 1) objects))
    left = ap (numbers_of types names i) (next_left objects i object got) ∙ numbers_more i object (drop (i + 1) objects)

    -- the next object is put
    pub number_put : is_of types names object ≡ true → (range ++ i ∷ []) ++ numbers_of types names (i + 1) (drop (i + 1) objects) ≡ whole
    number_put is =
        append_assoc range (i ∷ []) (numbers_of types names (i + 1) (drop (i + 1) objects))
        ∙ ap (λ rest. range ++ rest) (sym (left ∙ ap (λ b. if b then i ∷ numbers_of types names (i + 1) (drop (i + 1) objects) else numbers_of types names (i + 1) (drop (i + 1) objects)) is)) ∙ before

    -- the next object is passed over
    pub number_passed : is_of types names object ≡ false → range ++ numbers_of types names (i + 1) (drop (i + 1) objects) ≡ whole
    number_passed is =
        ap (λ rest. range ++ rest) (sym (left ∙ ap (λ b. if b then i ∷ numbers_of types names (i + 1) (drop (i + 1) objects) else numbers_of types names (i + 1) (drop (i + 1) objects)) is)) ∙ before

-- an item is there at an index below the length
pub got_some : {X : Type 0} (xs : List X) (i : ℕ) → i < length xs → (x : X) × (slice_get xs i ≡ Some x)
got_some [] i low = absurd (omega (arith, low))
got_some (x ∷ xs) zero low = (x, refl)
got_some (x ∷ xs) (suc i) low = got_some xs i (omega (arith, low))

pub length-names : {A : Type 0} (name : A → List ℕ) (xs : List A) → length (map name xs) ≡ length xs
length-names name [] = refl
length-names name (x ∷ xs) = ap suc (length-names name xs)
