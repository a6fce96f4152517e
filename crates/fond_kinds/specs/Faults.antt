-- The faults of declared types: cycles, F14, and types that are declared again with another parent, F19.
use Rattle.std.specs.Prelude.{◌≡◌, ◌≢◌, ◌⊎◌, ℕ, false, List, Contains, Some}
use Rattle.fond_text.specs.Lists.{Somewhere}
use Rattle.fond_text.specs.declared.code.TheConstants.{TYPE_CYCLE, REPEATED_NAME}
use Rattle.fond_text.specs.declared.place.Place.{Place}
use Rattle.fond_ast.specs.declared.names.TypedName.{TypedName}
use Rattle.fond_kinds.specs.Kinds.{root, only_kind, is_passed_over, type_of, IsAncestor}

-- a type other than `object` is its own ancestor: the fault is at its first declaration; or `object` is declared with another
-- parent than `object`: the fault is at each such declaration
abbrev pub IsCyclic : List TypedName → Place → ℕ → Type 0
IsCyclic types place code =
    (declared : TypedName)
    × (((type_of types declared.name ≡ Some declared) × (declared.name ≢ root) × IsAncestor types declared.name declared.name)
    ⊎ (Contains types declared × (declared.name ≡ root) × (only_kind declared ≢ root)))
    × (place ≡ declared.place) × (code ≡ TYPE_CYCLE)

-- a type is declared again with another parent than at first; the fault is at the later declaration; `object` without a
-- written parent is no declaration
abbrev pub IsRepeatedType : List TypedName → Place → ℕ → Type 0
IsRepeatedType types place code =
    Somewhere (λ before declared. (is_passed_over declared ≡ false) × ((first : TypedName) × (type_of before declared.name ≡ Some first) × (only_kind first ≢ only_kind declared)) × (place ≡ declared.place)) types
    × (code ≡ REPEATED_NAME)

-- a fault of declared types
abbrev pub StandsInKinds : List TypedName → Place → ℕ → Type 0
StandsInKinds types place code = IsCyclic types place code ⊎ IsRepeatedType types place code
