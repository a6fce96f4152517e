-- The task that declarations stand for: each name is replaced by its number, and the types of each variable by its
-- range.
use Rattle.std.specs.Prelude.{◌≡◌, ℕ, ◌+◌, ◌==◌, ◌&&◌, nat_lt, Bool, true, false, not, List, [], ◌∷◌, map, filter, length, position, Option, Some, None, slice_index_or}
use Rattle.std.specs.Bool.{Decides}
use Rattle.std.specs.List.{AllZip, list_any, enumerate_from}
use Rattle.std.specs.Option.{option_map_or}
use Rattle.std.specs.Str.{bytes_eq}
use Rattle.fond_text.specs.Lists.{each_passes}
use Rattle.fond_text.specs.declared.atom.Atom.{Atom}
use Rattle.fond_ast.specs.Ranges.{RangeList, objects_of}
use Rattle.fond_ast.specs.declared.names.Kind.{Kind}
use Rattle.fond_ast.specs.declared.names.ReadAtom.{ReadAtom}
use Rattle.fond_ast.specs.declared.names.Term.{Term}
use Rattle.fond_ast.specs.declared.names.TypedName.{TypedName}
use Rattle.fond_ast.specs.declared.files.Declared.{Declared}
use Rattle.fond_ast.specs.declared.files.InitAtom.{InitAtom}
use Rattle.fond_ast.specs.declared.files.Pattern.{Pattern}
use Rattle.fond_ast.specs.declared.files.Schema.{Schema}
use Rattle.fond_ast.specs.declared.files.Side.{Side}
use Rattle.fond_ast.specs.declared.syntax.Cond.{Cond}
use Rattle.fond_ast.specs.declared.syntax.Cond.TheOpen as condition
use Rattle.fond_ast.specs.declared.syntax.Cond.TheFolds.{fold-Cond}
use Rattle.fond_ast.specs.declared.syntax.Effect.{Effect}
use Rattle.fond_ast.specs.declared.syntax.Effect.TheOpen as effect
use Rattle.fond_ast.specs.declared.syntax.Effect.TheFolds.{fold-Effect}
use Rattle.fond_ast.specs.declared.form.LAtom.{LAtom}
use Rattle.fond_ast.specs.declared.form.LTerm.{LTerm}
use Rattle.fond_ast.specs.declared.form.LTerm.TheVariants.{Object, Variable}
use Rattle.fond_ast.specs.declared.form.LCond.{LCond, out-LCond}
use Rattle.fond_ast.specs.declared.form.LCond.TheOpen as numbered_condition
use Rattle.fond_ast.specs.declared.form.LEffect.{LEffect, out-LEffect}
use Rattle.fond_ast.specs.declared.form.LEffect.TheOpen as numbered_effect
use Rattle.fond_ast.specs.declared.task.LPredicate.{LPredicate}
use Rattle.fond_ast.specs.declared.task.LSchema.{LSchema}
use Rattle.fond_ast.specs.declared.task.LiftedTask.{LiftedTask}
use Rattle.fond_kinds.specs.Kinds.{only_kind, IsSubtype}
use Rattle.fond_names.specs.Names.{Declarations, objects_declared, predicates_declared}
use Rattle.fond_names.specs.Sites.{Scope, variables_of}

-- what names stand for: the names of predicates and of objects, each at the position that is its number, and the range of
-- each list of types
pub record Meanings : Type 0 where
  pub predicates : List (List ℕ)
  pub objects : List (List ℕ)
  pub range : List Kind → List ℕ

-- whether this name is at the position of this number in a list of names
abbrev pub is_number_of : List (List ℕ) → List ℕ → ℕ → Bool
is_number_of names name number = nat_lt number (length names) && bytes_eq (slice_index_or names number []) name

-- a position with this count added, or the other result if there is no position
abbrev pub placed_or : Option ℕ → ℕ → Option ℕ → Option ℕ
placed_or None count other = other
placed_or (Some at) count other = Some (count + at)

-- the number of a variable: its position among all variables around it, the outermost first, if some list declares it; the
-- innermost list that does counts, and in it the first declaration
abbrev pub variable_number : Scope → List ℕ → Option ℕ
variable_number [] name = None
variable_number (names ∷ outer) name =
    placed_or (position (λ declared. bytes_eq declared.name name) names) (length (variables_of outer)) (variable_number outer name)

-- whether a term over numbers is this term: the object of its name, or the variable that has its name among these lists around
-- it
abbrev pub is_term : Meanings → Scope → Term → LTerm → Bool
is_term meanings around term (Object number) = not term.variable && is_number_of meanings.objects term.name number
is_term meanings around term (Variable number) = term.variable && option_map_or (λ other. other == number) (variable_number around term.name) false

-- whether an atom over numbers is this atom with the names of its predicate and of its terms replaced by numbers, with these
-- lists of variables around it
abbrev pub is_atom : Meanings → Scope → ReadAtom → LAtom → Bool
is_atom meanings around atom number = is_number_of meanings.predicates atom.name number.predicate && each_passes (map (is_term meanings around) atom.terms) number.terms

-- whether these ranges are those of the types of these variables, in order
abbrev pub are_ranges : Meanings → List TypedName → RangeList → Bool
are_ranges meanings names ranges = each_passes (map (λ name. bytes_eq (meanings.range name.kinds)) names) (objects_of ranges)

-- whether a condition over numbers has the outermost operator of this condition, the same atom, terms or ranges over numbers,
-- and parts that pass, in order, the tests in place of the parts of this condition
abbrev pub condition_step : Meanings → condition.Cond-F (Scope → LCond → Bool) → Scope → numbered_condition.LCond-F LCond → Bool
condition_step meanings condition.Truth around numbered_condition.Truth = true
condition_step meanings (condition.Holds atom) around (numbered_condition.Holds number) = is_atom meanings around atom number
condition_step meanings (condition.Equal term other) around (numbered_condition.Equal number next) = is_term meanings around term number && is_term meanings around other next
condition_step meanings (condition.And parts) around (numbered_condition.And numbers) = each_passes (map (λ part. part around) parts.items) numbers.items
condition_step meanings (condition.Or parts) around (numbered_condition.Or numbers) = each_passes (map (λ part. part around) parts.items) numbers.items
condition_step meanings (condition.Not part) around (numbered_condition.Not number) = part.value around number.value
condition_step meanings (condition.Imply part other) around (numbered_condition.Imply number next) = part.value around number.value && other.value around next.value
condition_step meanings (condition.Forall names part) around (numbered_condition.Forall ranges number) = are_ranges meanings names ranges && part.value (names ∷ around) number.value
condition_step meanings (condition.Exists names part) around (numbered_condition.Exists ranges number) = are_ranges meanings names ranges && part.value (names ∷ around) number.value
condition_step meanings form around number = false

-- whether a condition over numbers is this condition with its names replaced by numbers, with these lists of variables
-- around it
abbrev pub is_condition : Meanings → Cond → Scope → LCond → Bool
is_condition meanings = fold-Cond (Scope → LCond → Bool) (λ form around number. condition_step meanings form around (out-LCond number))

-- whether an effect over numbers has the outermost operator of this effect, the same atom, ranges or condition over numbers,
-- and parts that pass, in order, the tests in place of the parts of this effect
abbrev pub effect_step : Meanings → effect.Effect-F (Scope → LEffect → Bool) → Scope → numbered_effect.LEffect-F LEffect → Bool
effect_step meanings effect.Nothing around numbered_effect.Nothing = true
effect_step meanings (effect.Add atom) around (numbered_effect.Add number) = is_atom meanings around atom number
effect_step meanings (effect.Delete atom) around (numbered_effect.Delete number) = is_atom meanings around atom number
effect_step meanings (effect.And parts) around (numbered_effect.And numbers) = each_passes (map (λ part. part around) parts.items) numbers.items
effect_step meanings (effect.Forall names part) around (numbered_effect.Forall ranges number) = are_ranges meanings names ranges && part.value (names ∷ around) number.value
effect_step meanings (effect.When condition part) around (numbered_effect.When number next) = is_condition meanings condition around number && part.value around next.value
effect_step meanings (effect.OneOf parts) around (numbered_effect.OneOf numbers) = each_passes (map (λ part. part around) parts.items) numbers.items
effect_step meanings form around number = false

-- whether an effect over numbers is this effect with its names replaced by numbers, with these lists of variables around it
abbrev pub is_effect : Meanings → Effect → Scope → LEffect → Bool
is_effect meanings = fold-Effect (Scope → LEffect → Bool) (λ form around number. effect_step meanings form around (out-LEffect number))

-- an effect mentions a predicate if its own atom or one of its parts does; the conditions of `when` do not count
abbrev pub mentions_step : List ℕ → effect.Effect-F Bool → Bool
mentions_step name effect.Nothing = false
mentions_step name (effect.Add atom) = bytes_eq atom.name name
mentions_step name (effect.Delete atom) = bytes_eq atom.name name
mentions_step name (effect.And parts) = list_any (λ part. part) parts.items
mentions_step name (effect.Forall names part) = part.value
mentions_step name (effect.When condition part) = part.value
mentions_step name (effect.OneOf parts) = list_any (λ part. part) parts.items

-- whether an effect has a literal of the predicate of this name
abbrev pub mentions : List ℕ → Effect → Bool
mentions name = fold-Effect Bool (mentions_step name)

-- a predicate over numbers has the name of this declaration and the ranges of its parameters, and it is fluent if and only if
-- the effect of some schema has a literal of it
pub record IsResolvedPredicate (meanings : Meanings) (schemas : List Schema) (declared : Declared) (number : LPredicate) : Type 0 where
  pub named : number.name ≡ declared.name
  pub ranges : are_ranges meanings declared.parameters number.ranges ≡ true
  pub fluent : number.fluent ≡ list_any (λ schema. mentions declared.name schema.effect) schemas

-- whether a term over numbers is this term of a pattern with these terms: the object of its name, or the variable numbered by
-- the position where it occurs first among them
abbrev pub is_pattern_term : Meanings → List Term → Term → LTerm → Bool
is_pattern_term meanings terms term (Object number) = not term.variable && is_number_of meanings.objects term.name number
is_pattern_term meanings terms term (Variable number) =
    term.variable && option_map_or (λ at. at == number) (position (λ other. other.variable && bytes_eq other.name term.name) terms) false

-- whether terms over numbers are those of this pattern with their names replaced by numbers, in order
abbrev pub is_pattern : Meanings → Pattern → List LTerm → Bool
is_pattern meanings pattern numbers = each_passes (map (is_pattern_term meanings pattern.terms) pattern.terms) numbers

-- the patterns of a side list that name this schema, in order
abbrev pub patterns_of : Side → List ℕ → List Pattern
patterns_of side name = filter (λ pattern. bytes_eq pattern.schema.name name) side.patterns

-- a schema over numbers is this schema with its names replaced by numbers: it is unfair if and only if a leaf of the side
-- list outside parentheses is its name, and it has the patterns that name it
pub record IsResolvedSchema (meanings : Meanings) (side : Side) (schema : Schema) (number : LSchema) : Type 0 where
  pub place : number.place ≡ schema.place
  pub named : number.name ≡ schema.name
  pub ranges : are_ranges meanings schema.parameters number.ranges ≡ true
  pub pre : is_condition meanings schema.pre (schema.parameters ∷ []) number.pre ≡ true
  pub effect : is_effect meanings schema.effect (schema.parameters ∷ []) number.effect ≡ true
  pub unfair : number.unfair ≡ list_any (λ leaf. bytes_eq leaf.name schema.name) side.names
  pub patterns : each_passes (map (is_pattern meanings) (patterns_of side schema.name)) number.patterns ≡ true

-- whether a ground atom is this atom, which has no variables, with its names replaced by numbers
abbrev pub is_ground_atom : Meanings → ReadAtom → Atom → Bool
is_ground_atom meanings atom number =
    is_number_of meanings.predicates atom.name number.predicate && each_passes (map (λ term. is_number_of meanings.objects term.name) atom.terms) number.objects

-- the initial atoms that are not negated
abbrev pub positive : List InitAtom → List ReadAtom
positive initial = map (λ one. one.atom) (filter (λ one. one.positive) initial)

-- the range of some types, by a test for subtypes: the objects whose type is a subtype of one of them, in order
abbrev pub range_of : (List ℕ → List ℕ → Bool) → List TypedName → List Kind → List ℕ
range_of is_subtype objects kinds = map (λ item. item.0) (filter (λ item. list_any (λ kind. is_subtype (only_kind item.1) kind.name) kinds) (enumerate_from 0 objects))

-- what names stand for in three files, by a test for subtypes
abbrev pub meanings_of : (List ℕ → List ℕ → Bool) → Declarations → Meanings
meanings_of is_subtype files = record {
  predicates = map (λ declared. declared.name) (predicates_declared files.domain);
  objects = map (λ declared. declared.name) (objects_declared files);
  range = range_of is_subtype (objects_declared files);
}

-- the parts of a task are those of three files, by what names stand for
pub record HasParts (meanings : Meanings) (files : Declarations) (task : LiftedTask) : Type 0 where
  pub place : task.place ≡ files.domain.place
  pub objects : task.objects ≡ meanings.objects
  pub predicates : AllZip (IsResolvedPredicate meanings files.domain.schemas) (predicates_declared files.domain) task.predicates
  pub schemas : AllZip (IsResolvedSchema meanings files.side) files.domain.schemas task.schemas
  pub init : each_passes (map (is_ground_atom meanings) (positive files.problem.init)) task.init ≡ true
  pub goal : is_condition meanings files.problem.goal [] task.goal ≡ true

-- a task is that of three files: it has their parts, by a test that decides which types are subtypes of which
pub record IsResolved (files : Declarations) (task : LiftedTask) : Type 0 where
  pub is_subtype : List ℕ → List ℕ → Bool
  pub decides : (name other : List ℕ) → Decides (is_subtype name other) (IsSubtype files.domain.kinds name other)
  pub parts : HasParts (meanings_of is_subtype files) files task
