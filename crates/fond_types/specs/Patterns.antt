-- Patterns that are sound, the places of their variables, and patterns over numbers that are filed by schema.
use Rattle.std.specs.Prelude.{◌≡◌, ◌==◌, ◌&&◌, ℕ, Bool, false, List, length, map, filter, position, Option, Some, None, if◌then◌else◌}
use Rattle.std.specs.List.{list_all}
use Rattle.std.specs.Option.{option_map_or, option_or}
use Rattle.std.specs.Str.{bytes_eq}
use Rattle.fond_text.specs.Lists.{each_passes}
use Rattle.fond_ast.specs.declared.files.Pattern.{Pattern}
use Rattle.fond_ast.specs.declared.files.Schema.{Schema}
use Rattle.fond_ast.specs.declared.form.LTerm.{LTerm}
use Rattle.fond_ast.specs.declared.names.Term.{Term}
use Rattle.fond_store.specs.Texts.{number_beside}
use Rattle.fond_names.specs.Names.{Declarations, schema_of}
use Rattle.fond_names.specs.Unknown.{is_sound_term}
use Rattle.fond_types.specs.Meanings.{meanings}
use Rattle.fond_types.specs.Resolves.{Meanings, is_pattern, is_pattern_term}

-- whether a pattern names a schema, has as many terms as that schema has parameters, and each term is a variable or the name of
-- an object
abbrev pub is_sound_pattern : Declarations → Pattern → Bool
is_sound_pattern files pattern =
    option_map_or (λ schema. length pattern.terms == length schema.parameters) (schema_of files.domain pattern.schema.name) false && list_all (is_sound_term files) pattern.terms

-- whether a pattern is of this schema
abbrev pub is_of_schema : Pattern → Schema → Bool
is_of_schema pattern schema = bytes_eq schema.name pattern.schema.name

-- the position where the variable of this name occurs first among terms, if it does
abbrev pub first_place : List Term → List ℕ → Option ℕ
first_place terms name = position (λ other. other.variable && bytes_eq other.name name) terms

-- an index has each variable among terms with the position where it occurs first, and no other name
abbrev pub HasPlaces : List Term → List (List ℕ × ℕ) → Type 0
HasPlaces terms index = (name : List ℕ) → number_beside index name ≡ first_place terms name

-- whether patterns over numbers are those of the given patterns that name this schema, in order
abbrev pub are_patterns : Meanings → List Pattern → List ℕ → List (List LTerm) → Bool
are_patterns meanings patterns name numbers = each_passes (map (is_pattern meanings) (filter (λ pattern. bytes_eq pattern.schema.name name) patterns)) numbers

-- whether patterns over numbers are those of the side list that name a schema, in order
abbrev pub are_patterns_of : Declarations → Schema → List (List LTerm) → Bool
are_patterns_of files schema numbers = are_patterns (meanings files) files.side.patterns schema.name numbers

-- whether terms over numbers are those of a pattern with these terms, in order
abbrev pub are_pattern_terms : Declarations → List Term → List LTerm → Bool
are_pattern_terms files terms numbers = each_passes (map (is_pattern_term (meanings files) terms) terms) numbers

-- a term is inserted with a number: if it is a variable without a number it gets this one, and nothing else changes
abbrev pub InsertsVariable : List (List ℕ × ℕ) → Term → ℕ → List (List ℕ × ℕ) → Type 0
InsertsVariable old term number new =
    (name : List ℕ) → number_beside new name ≡ option_or (number_beside old name) (if term.variable && bytes_eq term.name name then Some number else None)

-- whether there is one list for each schema, in order, and it has the patterns that name the schema, over numbers and in order
abbrev pub are_filed : Declarations → List Pattern → List (List (List LTerm)) → Bool
are_filed files patterns filed = each_passes (map (λ schema. are_patterns (meanings files) patterns schema.name) files.domain.schemas) filed
