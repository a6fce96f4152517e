-- Types, their parents and their subtypes.
use Rattle.std.specs.Prelude.{◌≡◌, ◌⊎◌, ℕ, ◌==◌, ◌&&◌, ◌||◌, Bool, false, not, List, [], ◌∷◌, Contains, Option, find, codes}
use Rattle.std.specs.List.{list_all, list_any}
use Rattle.std.specs.Option.{option_map_or}
use Rattle.std.specs.Str.{bytes_eq}
use Rattle.fond_text.specs.declared.place.Place.{Place}
use Rattle.fond_ast.specs.declared.names.Kind.{Kind}
use Rattle.fond_ast.specs.declared.names.TypedName.{TypedName}

-- the type at the root of all types
abbrev pub root : List ℕ
root = codes "object"

-- the name of the first of some types, or `object` if there is none
abbrev pub first_kind : List Kind → List ℕ
first_kind [] = root
first_kind (kind ∷ kinds) = kind.name

-- the type of a declared name that has exactly one
abbrev pub only_kind : TypedName → List ℕ
only_kind declared = first_kind declared.kinds

-- whether the first of some types is at this place
abbrev pub begins_at : Place → List Kind → Bool
begins_at place [] = false
begins_at place (kind ∷ kinds) = kind.place.line == place.line && kind.place.column == place.column

-- whether this is `object` without a written parent: its type then is at the place of the name itself; this declares nothing
abbrev pub is_passed_over : TypedName → Bool
is_passed_over declared = bytes_eq declared.name root && begins_at declared.place declared.kinds

-- whether this declares the type of this name
abbrev pub declares : List ℕ → TypedName → Bool
declares name declared = bytes_eq declared.name name && not (is_passed_over declared)

-- the first declaration of a type
abbrev pub type_of : List TypedName → List ℕ → Option TypedName
type_of types name = find (declares name) types

-- the parent of a type: that of its first declaration, or `object` if it has none
abbrev pub parent_of : List TypedName → List ℕ → List ℕ
parent_of types name = option_map_or only_kind (type_of types name) root

-- whether a type is declared: it is `object`, or occurs as a type or as a parent among the declarations of types
abbrev pub is_type : List TypedName → List ℕ → Bool
is_type types name = bytes_eq name root || list_any (λ declared. bytes_eq declared.name name || bytes_eq (only_kind declared) name) types

-- whether each of some types is declared
abbrev pub are_types : List TypedName → List Kind → Bool
are_types types kinds = list_all (λ kind. is_type types kind.name) kinds

-- a type is an ancestor of another: it is reached from that one by following parents, at least once
pub data IsAncestor (types : List TypedName) : List ℕ → List ℕ → Type 0 where
  parent : (name : List ℕ) → IsAncestor types name (parent_of types name)
  onward : (name above : List ℕ) → IsAncestor types (parent_of types name) above → IsAncestor types name above

-- a type is a subtype of another: they are equal, the other is its ancestor, or the other is `object`
abbrev pub IsSubtype : List TypedName → List ℕ → List ℕ → Type 0
IsSubtype types name other = (name ≡ other) ⊎ (IsAncestor types name other ⊎ (other ≡ root))

-- types fit those of a parameter: each is a subtype of some type of the parameter
abbrev pub Fit : List TypedName → List Kind → List Kind → Type 0
Fit types kinds parameter = (kind : Kind) → Contains kinds kind → (other : Kind) × Contains parameter other × IsSubtype types kind.name other.name
