-- A test for subtypes that follows parents, and what fits by it.
use Rattle.std.specs.Prelude.{ℕ, zero, suc, ◌&&◌, ◌||◌, Bool, false, not, List, ◌∷◌, Option, filter, find, length, map, option_map}
use Rattle.std.specs.List.{list_all, list_any}
use Rattle.std.specs.Option.{option_map_or}
use Rattle.std.specs.Str.{bytes_eq}
use Rattle.fond_ast.specs.declared.names.Kind.{Kind}
use Rattle.fond_ast.specs.declared.names.TypedName.{TypedName}
use Rattle.fond_kinds.specs.Kinds.{root, only_kind, parent_of, is_type, are_types}

-- texts, each beside one that is above it
abbrev pub Links : Type 0
Links = List (List ℕ × List ℕ)

-- the text beside the first link of this text
abbrev pub link_of : Links → List ℕ → Option (List ℕ)
link_of links name = option_map (λ link. link.1) (find (λ link. bytes_eq link.0 name) links)

-- the links of other texts
abbrev pub other_links : Links → List ℕ → Links
other_links links name = filter (λ link. not (bytes_eq link.0 name)) links

-- whether a text is reached from another one by at most so many links, none of them twice
abbrev pub is_above : ℕ → Links → List ℕ → List ℕ → Bool
is_above zero links name above = false
is_above (suc steps) links name above =
    option_map_or (λ next. bytes_eq next above || is_above steps (other_links links name) next above) (link_of links name) false

-- a type, `object`, and each type that is the parent of a declared one
abbrev pub climbed : List TypedName → List ℕ → List (List ℕ)
climbed types name = name ∷ root ∷ map only_kind types

-- the types that are reached from a type, each beside its parent
abbrev pub links_of : List TypedName → List ℕ → Links
links_of types name = map (λ other. (other, parent_of types other)) (climbed types name)

-- whether a type is a subtype of another one
abbrev pub is_subtype : List TypedName → List ℕ → List ℕ → Bool
is_subtype types name other = bytes_eq name other || is_above (length (links_of types name)) (links_of types name) name other || bytes_eq other root

-- whether two types are declared, and the first is a subtype of the second
abbrev pub is_below : List TypedName → List ℕ → List ℕ → Bool
is_below types name other = is_type types name && is_type types other && is_subtype types name other

-- whether a type is below one of some types
abbrev pub is_below_some : List TypedName → List ℕ → List Kind → Bool
is_below_some types name parameter = list_any (λ other. is_below types name other.name) parameter

-- whether types are declared, those of a parameter are declared, and they do not fit it
abbrev pub are_misfits : List TypedName → List Kind → List Kind → Bool
are_misfits types kinds parameter =
    are_types types kinds && are_types types parameter && not (list_all (λ kind. is_below_some types kind.name parameter) kinds)
