-- The names of types by numbers.
use Rattle.std.specs.Prelude.{◌≡◌, ◌≢◌, ◌⊎◌, ℕ, ◌&&◌, nat_lt, List, ◌∷◌, [], length, Option, Some, None, is_none, slice_index_or, slice_set, slice_get, false, take, position, if◌then◌else◌}
use Rattle.std.specs.List.{flat_map}
use Rattle.std.specs.Str.{bytes_eq}
use Rattle.fond_text.specs.declared.code.TheConstants.{TYPE_CYCLE, REPEATED_NAME}
use Rattle.fond_text.specs.declared.place.Place.{Place}
use Rattle.fond_ast.specs.declared.names.TypedName.{TypedName}
use Rattle.fond_store.specs.Texts.{number_beside}
use Rattle.fond_kinds.specs.Kinds.{root, only_kind, is_passed_over, declares, type_of, IsAncestor}

-- all names of types: `object`, and then each declared type and its parent, in order
abbrev pub type_names : List TypedName → List (List ℕ)
type_names types = root ∷ flat_map (λ declared. declared.name ∷ only_kind declared ∷ []) types

-- the number of a type, if it is declared: the first place of its name
abbrev pub number_of : List TypedName → List ℕ → Option ℕ
number_of types name = position (λ other. bytes_eq other name) (type_names types)

-- a number is that of some type
abbrev pub IsNumber : List TypedName → ℕ → Type 0
IsNumber types number = (name : List ℕ) × (number_of types name ≡ Some number)

-- the indexes of first declarations with one more, unless there is an earlier one
abbrev pub put_first : List (Option ℕ) → ℕ → Option ℕ → List (Option ℕ)
put_first firsts at None = firsts
put_first firsts at (Some number) = if nat_lt number (length firsts) && is_none (slice_index_or firsts number None) then slice_set firsts number (Some at) else firsts

-- the indexes of first declarations with one more, unless its type has an earlier one, or it declares nothing
abbrev pub firsts_with : List (List ℕ × ℕ) → List (Option ℕ) → TypedName → ℕ → List (Option ℕ)
firsts_with numbers firsts declared at = if is_passed_over declared then firsts else put_first firsts at (number_beside numbers declared.name)

-- the declaration of a type at an index closes a cycle: it is the first one of a type other than `object`, which is its own
-- ancestor, or it gives `object` another parent
abbrev pub IsCycleAt : List TypedName → ℕ → TypedName → Type 0
IsCycleAt types i declared =
    ((position (declares declared.name) types ≡ Some i) × (declared.name ≢ root) × IsAncestor types declared.name declared.name) ⊎ ((declared.name ≡ root) × (only_kind declared ≢ root))

-- the declaration of a type at an index gives another parent than the first one
abbrev pub IsChangeAt : List TypedName → ℕ → TypedName → Type 0
IsChangeAt types i declared = (is_passed_over declared ≡ false) × ((first : TypedName) × (type_of (take i types) declared.name ≡ Some first) × (only_kind first ≢ only_kind declared))

-- a fault of the declaration of a type at an index
abbrev pub IsFaultAt : List TypedName → ℕ → Place → ℕ → Type 0
IsFaultAt types i place code =
    (declared : TypedName) × (slice_get types i ≡ Some declared) × (place ≡ declared.place)
    × ((IsCycleAt types i declared × (code ≡ TYPE_CYCLE)) ⊎ (IsChangeAt types i declared × (code ≡ REPEATED_NAME)))
