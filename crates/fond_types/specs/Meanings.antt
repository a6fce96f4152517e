-- What names stand for in three files, by the test for subtypes, and the ranges of variables around a place.
use Rattle.std.specs.Prelude.{◌≡◌, ℕ, suc, Bool, List, [], ◌∷◌, ◌++◌, fold, map, if◌then◌else◌}
use Rattle.std.specs.List.{list_all}
use Rattle.std.specs.Str.{bytes_eq}
use Rattle.fond_ast.specs.declared.names.Kind.{Kind}
use Rattle.fond_ast.specs.declared.names.TypedName.{TypedName}
use Rattle.fond_store.specs.Texts.{number_beside}
use Rattle.fond_kinds.specs.Kinds.{root, are_types, parent_of}
use Rattle.fond_names.specs.Names.{Declarations, is_among}
use Rattle.fond_types.specs.Resolves.{Meanings, meanings_of}
use Rattle.fond_names.specs.Sites.{Scope}
use Rattle.fond_names.specs.Subtypes.{is_subtype}

-- what names stand for in three files
abbrev pub meanings : Declarations → Meanings
meanings files = meanings_of (is_subtype files.domain.kinds) files

-- the ranges of the variables around a place, the outermost first
abbrev pub ranges_around : (List Kind → List ℕ) → Scope → List (List ℕ)
ranges_around range [] = []
ranges_around range (names ∷ outer) = ranges_around range outer ++ map (λ name. range name.kinds) names

-- names with one more at the end, unless it is one of them
abbrev pub name_also : List (List ℕ) → List ℕ → List (List ℕ)
name_also names name = if is_among names name then names else names ++ name ∷ []

-- the names of items, each once, in the order in which they come first
abbrev pub names_once : {A : Type 0} → (A → List ℕ) → List A → List (List ℕ)
names_once name items = fold name_also [] (map name items)

-- names numbered in order, the first with this number
abbrev pub numbered_from : ℕ → List (List ℕ) → List (List ℕ × ℕ)
numbered_from number [] = []
numbered_from number (name ∷ names) = (name, number) ∷ numbered_from (suc number) names

-- an index has each of these names with its first position among them, counted from 0, and no other name
abbrev pub IsNumbering : List (List ℕ × ℕ) → List (List ℕ) → Type 0
IsNumbering numbers names = (name : List ℕ) → number_beside numbers name ≡ number_beside (numbered_from 0 names) name

-- whether the types of variables are declared
abbrev pub are_typed : List TypedName → List TypedName → Bool
are_typed types names = list_all (λ name. are_types types name.kinds) names

-- whether the types of all variables around a place are declared
abbrev pub are_typed_around : List TypedName → Scope → Bool
are_typed_around types around = list_all (are_typed types) around

-- whether `object` has no parent but itself
abbrev pub has_root : List TypedName → Bool
has_root types = bytes_eq (parent_of types root) root
