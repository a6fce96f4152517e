-- Patterns of ground actions, and which actions of a schema are unfair.
use Rattle.std.specs.Prelude.{◌≡◌, ◌⊎◌, ◌==◌, ◌&&◌, ℕ, nat_lt, Bool, true, false, List, Some, Contains, length, slice_get}
use Rattle.std.specs.List.{list_all}
use Rattle.std.specs.Option.{option_map_or}
use Rattle.fond_ast.specs.declared.form.LTerm.{LTerm}
use Rattle.fond_ast.specs.declared.form.LTerm.TheVariants.{Object, Variable}
use Rattle.fond_ast.specs.declared.task.LSchema.{LSchema}

-- a pattern fits objects: it has as many terms, each object among the terms stands at its position, and at the positions
-- of equal variables stand equal objects
pub record Fits (pattern : List LTerm) (objects : List ℕ) : Type 0 where
  pub counted : length pattern ≡ length objects
  pub named : (at number : ℕ) → slice_get pattern at ≡ Some (Object number) → slice_get objects at ≡ Some number
  pub equal : (at other number : ℕ) → slice_get pattern at ≡ Some (Variable number) → slice_get pattern other ≡ Some (Variable number) → slice_get objects at ≡ slice_get objects other

-- the action of a schema with these objects is unfair: a leaf of the side list outside parentheses names the schema, or
-- one of the schema's patterns fits the objects
abbrev pub IsUnfairWith : LSchema → List ℕ → Type 0
IsUnfairWith schema objects = (schema.unfair ≡ true) ⊎ ((pattern : List LTerm) × Contains schema.patterns pattern × Fits pattern objects)

-- whether a term is the variable of this number
abbrev pub is_variable : ℕ → LTerm → Bool
is_variable number (Object other) = false
is_variable number (Variable other) = other == number

-- whether the variable of this number stands at the position of this number
abbrev pub leads : List LTerm → ℕ → Bool
leads pattern number = option_map_or (is_variable number) (slice_get pattern number) false

-- whether a term of a pattern is one of this many objects, or a variable that stands, here or elsewhere, at the position of its number
abbrev pub is_pattern_term_within : ℕ → List LTerm → LTerm → Bool
is_pattern_term_within count pattern (Object number) = nat_lt number count
is_pattern_term_within count pattern (Variable number) = leads pattern number

-- whether a pattern has this many terms, and each is one of this many objects, or a variable that stands at the position of its
-- number, so that it is numbered by one of its positions
abbrev pub is_pattern_within : ℕ → ℕ → List LTerm → Bool
is_pattern_within count places pattern = (length pattern == places) && list_all (is_pattern_term_within count pattern) pattern

-- whether each pattern of a schema has a term for each parameter, and its terms are among this many objects, or variables that
-- are numbered by one of their positions
abbrev pub are_patterns_within : ℕ → LSchema → Bool
are_patterns_within count schema = list_all (is_pattern_within count (length schema.ranges)) schema.patterns
