-- Where names occur in conditions and effects: atoms and equalities, each with the lists of variables around it, and the
-- lists of variables themselves.
use Rattle.std.specs.Prelude.{ℕ, List, [], ◌∷◌, ◌++◌, map, Option}
use Rattle.std.specs.List.{flat_map}
use Rattle.fond_ast.specs.declared.names.ReadAtom.{ReadAtom}
use Rattle.fond_ast.specs.declared.names.Term.{Term}
use Rattle.fond_ast.specs.declared.names.TypedName.{TypedName}
use Rattle.fond_ast.specs.declared.files.Domain.{Domain}
use Rattle.fond_ast.specs.declared.files.Problem.{Problem}
use Rattle.fond_ast.specs.declared.files.Schema.{Schema}
use Rattle.fond_ast.specs.declared.syntax.Cond.{Cond}
use Rattle.fond_ast.specs.declared.syntax.Cond.TheOpen as condition
use Rattle.fond_ast.specs.declared.syntax.Cond.TheFolds.{fold-Cond}
use Rattle.fond_ast.specs.declared.syntax.Effect.{Effect}
use Rattle.fond_ast.specs.declared.syntax.Effect.TheOpen as effect
use Rattle.fond_ast.specs.declared.syntax.Effect.TheFolds.{fold-Effect}
use Rattle.fond_names.specs.Names.{first_of}

-- the lists of variables around a place, the innermost first
abbrev pub Scope : Type 0
Scope = List (List TypedName)

-- all variables around a place, those of the innermost list first
abbrev pub variables_of : Scope → List TypedName
variables_of around = flat_map (λ names. names) around

-- the declaration of a variable: the first one in the innermost list that declares it
abbrev pub variable_of : Scope → List ℕ → Option TypedName
variable_of around name = first_of (variables_of around) name

-- an atom or an equality with the lists of variables around it, or a list of variables
pub data Site : Type 0 where
  AnAtom : (around : Scope) (atom : ReadAtom) → Site
  AnEquality : (around : Scope) (term other : Term) → Site
  AList : (names : List TypedName) → Site

abbrev pub condition_sites_step : condition.Cond-F (Scope → List Site) → Scope → List Site
condition_sites_step condition.Truth around = []
condition_sites_step (condition.Holds atom) around = AnAtom around atom ∷ []
condition_sites_step (condition.Equal term other) around = AnEquality around term other ∷ []
condition_sites_step (condition.And parts) around = flat_map (λ part. part around) parts.items
condition_sites_step (condition.Or parts) around = flat_map (λ part. part around) parts.items
condition_sites_step (condition.Not part) around = part.value around
condition_sites_step (condition.Imply part other) around = part.value around ++ other.value around
condition_sites_step (condition.Forall names part) around = AList names ∷ part.value (names ∷ around)
condition_sites_step (condition.Exists names part) around = AList names ∷ part.value (names ∷ around)

-- the sites of a condition with these lists of variables around it: a quantifier puts its list around its part
abbrev pub condition_sites : Cond → Scope → List Site
condition_sites = fold-Cond (Scope → List Site) condition_sites_step

abbrev pub effect_sites_step : effect.Effect-F (Scope → List Site) → Scope → List Site
effect_sites_step effect.Nothing around = []
effect_sites_step (effect.Add atom) around = AnAtom around atom ∷ []
effect_sites_step (effect.Delete atom) around = AnAtom around atom ∷ []
effect_sites_step (effect.And parts) around = flat_map (λ part. part around) parts.items
effect_sites_step (effect.Forall names part) around = AList names ∷ part.value (names ∷ around)
effect_sites_step (effect.When condition part) around = condition_sites condition around ++ part.value around
effect_sites_step (effect.OneOf parts) around = flat_map (λ part. part around) parts.items

-- the sites of an effect with these lists of variables around it
abbrev pub effect_sites : Effect → Scope → List Site
effect_sites = fold-Effect (Scope → List Site) effect_sites_step

-- the sites of a schema: its parameters, and those of its precondition and its effect, which the parameters are around
abbrev pub schema_sites : Schema → List Site
schema_sites schema = AList schema.parameters ∷ condition_sites schema.pre (schema.parameters ∷ []) ++ effect_sites schema.effect (schema.parameters ∷ [])

-- the sites of the schemas of a domain
abbrev pub domain_sites : Domain → List Site
domain_sites domain = flat_map schema_sites domain.schemas

-- the sites of a problem: its initial atoms, negated or not, and those of its goal
abbrev pub problem_sites : Problem → List Site
problem_sites problem = map (λ initial. AnAtom [] initial.atom) problem.init ++ condition_sites problem.goal []

-- a list of variables as a site, followed by the sites of its part, which has this list around it and then the outer ones
abbrev pub sites_within : List TypedName → (Scope → List Site) → Scope → List Site
sites_within names of around = AList names ∷ of (names ∷ around)

-- the sites of some conditions or effects, one after the other
abbrev pub sites_of : {A : Type 0} → (A → Scope → List Site) → List A → Scope → List Site
sites_of of parts around = flat_map (λ part. part around) (map of parts)

-- the sites of the initial atoms of a problem, negated or not
abbrev pub initial_sites : Problem → List Site
initial_sites problem = map (λ initial. AnAtom [] initial.atom) problem.init
