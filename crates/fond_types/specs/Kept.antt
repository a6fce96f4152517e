-- Ranges that are kept, and the ranges of names of types.
use Rattle.std.specs.Prelude.{◌≡◌, ℕ, Bool, true, Contains, List, map, filter}
use Rattle.std.specs.List.{list_all, list_any, enumerate_from}
use Rattle.std.specs.Str.{bytes_eq}
use Rattle.fond_ast.specs.declared.names.TypedName.{TypedName}
use Rattle.fond_kinds.specs.Kinds.{only_kind}
use Rattle.fond_names.specs.Names.{Declarations, objects_declared}
use Rattle.fond_names.specs.Subtypes.{is_subtype}
use Rattle.fond_types.specs.declared.kept.Kept.{Kept}

-- whether an object is of one of the types of these names
abbrev pub is_of : List TypedName → List (List ℕ) → TypedName → Bool
is_of types names object = list_any (is_subtype types (only_kind object)) names

-- the numbers of objects that are of one of the types of these names, from this number on
abbrev pub numbers_of : List TypedName → List (List ℕ) → ℕ → List TypedName → List ℕ
numbers_of types names number objects = map (λ item. item.0) (filter (λ item. is_of types names item.1) (enumerate_from number objects))

-- the range of the types of these names
abbrev pub range_by : Declarations → List (List ℕ) → List ℕ
range_by files names = numbers_of files.domain.kinds names 0 (objects_declared files)

-- whether each range that is kept is that of its types
abbrev pub are_kept : Declarations → List Kept → Bool
are_kept files entries = list_all (λ entry. bytes_eq (range_by files entry.kinds) entry.range.value) entries

-- if the ranges that were kept are those of their types, and a new one is that of its types, the ranges that are kept
-- afterwards are those of their types
abbrev pub Keeps : List Kept → List Kept → List (List ℕ) → List ℕ → Type 0
Keeps before after names range =
    (files : Declarations) → are_kept files before ≡ true → bytes_eq (range_by files names) range ≡ true → are_kept files after ≡ true

-- an entry is kept, and has these names of types
abbrev pub IsKeptFor : List Kept → List (List ℕ) → Kept → Type 0
IsKeptFor entries names entry = (entry.kinds ≡ names) × Contains entries entry
