-- Tests of whether a later declaration has other types than the first one of its name.
use Rattle.std.specs.Prelude.{ℕ, ◌&&◌, Bool, true, false, not, List, [], ◌∷◌, map}
use Rattle.std.specs.Option.{option_map_or}
use Rattle.std.specs.Str.{bytes_eq}
use Rattle.std.specs.List.{list_all}
use Rattle.fond_ast.specs.declared.files.Declared.{Declared}
use Rattle.fond_ast.specs.declared.files.Domain.{Domain}
use Rattle.fond_ast.specs.declared.names.Kind.{Kind}
use Rattle.fond_ast.specs.declared.names.TypedName.{TypedName}
use Rattle.fond_kinds.specs.Kinds.{only_kind}
use Rattle.fond_names.specs.Names.{Declarations, all_objects, first_of, is_among, predicate_of}

-- the names of types
abbrev pub kind_names : List Kind → List (List ℕ)
kind_names kinds = map (λ kind. kind.name) kinds

-- whether two lists of types have the same members
abbrev pub are_same_kinds : List Kind → List Kind → Bool
are_same_kinds one other =
    list_all (λ kind. is_among (kind_names other) kind.name) one && list_all (λ kind. is_among (kind_names one) kind.name) other

-- whether two lists have as many variables, of the same types place by place
abbrev pub are_same_types : List TypedName → List TypedName → Bool
are_same_types [] [] = true
are_same_types (one ∷ ones) (other ∷ others) = are_same_kinds one.kinds other.kinds && are_same_types ones others
are_same_types ones others = false

-- whether the first declaration of a predicate of this name, if there is one, has another number of parameters than this
-- declaration or, at some position, other types
abbrev pub has_other_types : Domain → Declared → Bool
has_other_types domain declared =
    option_map_or (λ first. not (are_same_types first.parameters declared.parameters)) (predicate_of domain declared.name) false

-- whether the first declaration of an object of this name, if there is one, has another type than this declaration
abbrev pub has_other_kind : Declarations → TypedName → Bool
has_other_kind files declared =
    option_map_or (λ first. not (bytes_eq (only_kind first) (only_kind declared))) (first_of (all_objects files) declared.name) false
