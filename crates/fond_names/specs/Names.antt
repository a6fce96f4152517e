-- The declarations of the three files, and the first one of each name.
use Rattle.std.specs.Prelude.{ℕ, Bool, List, [], ◌∷◌, ◌++◌, fold, map, Option, find, if◌then◌else◌}
use Rattle.std.specs.List.{list_any}
use Rattle.std.specs.Str.{bytes_eq}
use Rattle.fond_ast.specs.declared.files.Declared.{Declared}
use Rattle.fond_ast.specs.declared.files.Domain.{Domain}
use Rattle.fond_ast.specs.declared.files.Problem.{Problem}
use Rattle.fond_ast.specs.declared.files.Schema.{Schema}
use Rattle.fond_ast.specs.declared.files.Side.{Side}
use Rattle.fond_ast.specs.declared.names.Kind.{Kind}
use Rattle.fond_ast.specs.declared.names.TypedName.{TypedName}

-- the declarations of the three files
pub record Declarations : Type 0 where
  pub domain : Domain
  pub problem : Problem
  pub side : Side

-- whether a name is one of these
abbrev pub is_among : List (List ℕ) → List ℕ → Bool
is_among names name = list_any (bytes_eq name) names

-- items with one more, unless one of them has its name
abbrev pub named_also : {A : Type 0} → (A → List ℕ) → List A → A → List A
named_also name items item = if is_among (map name items) (name item) then items else items ++ item ∷ []

-- each item whose name no earlier item has
abbrev pub firsts : {A : Type 0} → (A → List ℕ) → List A → List A
firsts name items = fold (named_also name) [] items

-- the first declaration of a name
abbrev pub first_of : List TypedName → List ℕ → Option TypedName
first_of declarations name = find (λ declared. bytes_eq declared.name name) declarations

-- the constants, and then the objects of the problem
abbrev pub all_objects : Declarations → List TypedName
all_objects files = files.domain.constants ++ files.problem.objects

-- the objects, each at its first declaration
abbrev pub objects_declared : Declarations → List TypedName
objects_declared files = firsts (λ declared. declared.name) (all_objects files)

-- the predicates, each at its first declaration
abbrev pub predicates_declared : Domain → List Declared
predicates_declared domain = firsts (λ declared. declared.name) domain.predicates

-- the first declaration of a predicate
abbrev pub predicate_of : Domain → List ℕ → Option Declared
predicate_of domain name = find (λ declared. bytes_eq declared.name name) domain.predicates

-- the names of the schemas of a domain
abbrev pub schema_names : Domain → List (List ℕ)
schema_names domain = map (λ schema. schema.name) domain.schemas

-- the first schema of a name
abbrev pub schema_of : Domain → List ℕ → Option Schema
schema_of domain name = find (λ schema. bytes_eq schema.name name) domain.schemas

-- the first member of each pattern of a side list
abbrev pub front_leaves : Side → List Kind
front_leaves side = map (λ pattern. pattern.schema) side.patterns

-- the leaves of a side list that should name schemas: those outside parentheses, and the first member of each pattern
abbrev pub schema_leaves : Side → List Kind
schema_leaves side = side.names ++ map (λ pattern. pattern.schema) side.patterns
