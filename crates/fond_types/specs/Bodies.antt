-- Conditions and effects that are sound, and what they are over numbers. A site is sound if it has no unknown name, no wrong
-- arity and no mismatch. What is over numbers is within the declarations if each number in it is that of an object, a variable
-- around it or a predicate, each argument lies in the range of its parameter, ranges rise, and each choice has a member.
use Rattle.std.specs.Prelude.{◌≡◌, ◌≤◌, ◌+◌, true, List, [], ◌∷◌, length, map, sum}
use Rattle.std.specs.List.{AllZip, flat_map, list_all}
use Rattle.fond_text.specs.Lists.{each_passes}
use Rattle.fond_text.specs.declared.code.TheConstants.{LONGEST_TEXT}
use Rattle.fond_ast.specs.Read.{condition_variables, effect_variables, has_choices, has_few_variables, is_schema_with_choices}
use Rattle.fond_ast.specs.Within.{is_condition_within, is_effect_fluent, is_effect_within, is_schema_fluent}
use Rattle.fond_ast.specs.declared.files.Schema.{Schema}
use Rattle.fond_ast.specs.declared.form.LCond.{LCond}
use Rattle.fond_ast.specs.declared.form.LEffect.{LEffect}
use Rattle.fond_ast.specs.declared.syntax.Cond.{Cond}
use Rattle.fond_ast.specs.declared.syntax.Effect.{Effect}
use Rattle.fond_ast.specs.declared.task.LSchema.{LSchema}
use Rattle.fond_names.specs.Names.{Declarations, objects_declared}
use Rattle.fond_names.specs.Sites.{Scope, condition_sites, effect_sites, schema_sites, variables_of}
use Rattle.fond_types.specs.Meanings.{are_typed_around, meanings, ranges_around}
use Rattle.fond_types.specs.Numbered.{Numbered, is_condition_in, is_effect_in, is_schema_in}
use Rattle.fond_types.specs.Resolves.{IsResolvedSchema, is_condition, is_effect}
use Rattle.fond_types.specs.Sound.{are_sound, is_mentioned, literals_pass}

-- each site of a condition is sound, the types of the variables around it are declared, and it and the lists around it
-- declare at most LONGEST_TEXT variables
pub record IsSoundCondition (files : Declarations) (around : Scope) (condition : Cond) : Type 0 where
  pub sound : are_sound files (condition_sites condition around) ≡ true
  pub typed : are_typed_around files.domain.kinds around ≡ true
  pub few : length (variables_of around) + condition_variables condition ≤ LONGEST_TEXT

-- each site of these conditions is sound, the types of the variables around them are declared, and they and the lists
-- around them declare at most LONGEST_TEXT variables
pub record AreSoundConditions (files : Declarations) (around : Scope) (conditions : List Cond) : Type 0 where
  pub sound : are_sound files (flat_map (λ part. part around) (map condition_sites conditions)) ≡ true
  pub typed : are_typed_around files.domain.kinds around ≡ true
  pub few : length (variables_of around) + sum (map condition_variables conditions) ≤ LONGEST_TEXT

-- a condition over numbers is this condition with its names replaced by numbers, and it is within the declarations
pub record IsNumberedCondition (all : Numbered) (around : Scope) (condition : Cond) (number : LCond) : Type 0 where
  pub resolved : is_condition (meanings all.files) condition around number ≡ true
  pub within : is_condition_in all around number ≡ true

-- conditions over numbers are these conditions with their names replaced by numbers, in order, and they are within the
-- declarations
pub record AreNumberedConditions (all : Numbered) (around : Scope) (conditions : List Cond) (numbers : List LCond) : Type 0 where
  pub resolved : each_passes (map (λ part. part around) (map (is_condition (meanings all.files)) conditions)) numbers ≡ true
  pub within : list_all (λ number. number (ranges_around (meanings all.files).range around))
      (map (is_condition_within (length (objects_declared all.files)) all.predicates) numbers) ≡ true

-- each site of an effect is sound, each choice in it has a member, the predicate of each of its literals has a literal in the
-- effect of some schema, the types of the variables around it are declared, and it and the lists around it declare at most
-- LONGEST_TEXT variables
pub record IsSoundEffect (files : Declarations) (around : Scope) (effect : Effect) : Type 0 where
  pub sound : are_sound files (effect_sites effect around) ≡ true
  pub choices : has_choices effect ≡ true
  pub literals : literals_pass (is_mentioned files.domain) effect ≡ true
  pub typed : are_typed_around files.domain.kinds around ≡ true
  pub few : length (variables_of around) + effect_variables effect ≤ LONGEST_TEXT

-- each site of these effects is sound, each choice in them has a member, the predicate of each of their literals has a literal
-- in the effect of some schema, the types of the variables around them are declared, and they and the lists around them declare
-- at most LONGEST_TEXT variables
pub record AreSoundEffects (files : Declarations) (around : Scope) (effects : List Effect) : Type 0 where
  pub sound : are_sound files (flat_map (λ part. part around) (map effect_sites effects)) ≡ true
  pub choices : list_all (λ part. part) (map has_choices effects) ≡ true
  pub literals : list_all (λ part. part) (map (literals_pass (is_mentioned files.domain)) effects) ≡ true
  pub typed : are_typed_around files.domain.kinds around ≡ true
  pub few : length (variables_of around) + sum (map effect_variables effects) ≤ LONGEST_TEXT

-- an effect over numbers is this effect with its names replaced by numbers, it is within the declarations, and its literals
-- are fluent
pub record IsNumberedEffect (all : Numbered) (around : Scope) (effect : Effect) (number : LEffect) : Type 0 where
  pub resolved : is_effect (meanings all.files) effect around number ≡ true
  pub within : is_effect_in all around number ≡ true
  pub fluent : is_effect_fluent all.predicates number ≡ true

-- effects over numbers are these effects with their names replaced by numbers, in order, they are within the declarations, and
-- their literals are fluent
pub record AreNumberedEffects (all : Numbered) (around : Scope) (effects : List Effect) (numbers : List LEffect) : Type 0 where
  pub resolved : each_passes (map (λ part. part around) (map (is_effect (meanings all.files)) effects)) numbers ≡ true
  pub within : list_all (λ number. number (ranges_around (meanings all.files).range around))
      (map (is_effect_within (length (objects_declared all.files)) all.predicates) numbers) ≡ true
  pub fluent : list_all (λ part. part) (map (is_effect_fluent all.predicates) numbers) ≡ true
  pub counted : length numbers ≡ length effects

-- each site of a schema is sound, each choice in it has a member, the predicate of each literal of its effect has a literal in
-- the effect of some schema, and it declares at most LONGEST_TEXT variables
pub record IsSoundSchema (files : Declarations) (schema : Schema) : Type 0 where
  pub sound : are_sound files (schema_sites schema) ≡ true
  pub choices : is_schema_with_choices schema ≡ true
  pub literals : literals_pass (is_mentioned files.domain) schema.effect ≡ true
  pub few : has_few_variables schema ≡ true

-- a condition and an effect over numbers are the precondition and the effect of this schema with their names replaced by
-- numbers, with only its parameters around them, they are within the declarations, and the literals of the effect are fluent
pub record IsNumberedBody (all : Numbered) (schema : Schema) (pre : LCond) (effect : LEffect) : Type 0 where
  pub pre_is : IsNumberedCondition all (schema.parameters ∷ []) schema.pre pre
  pub effect_is : IsNumberedEffect all (schema.parameters ∷ []) schema.effect effect

-- a schema over numbers is this schema with its names replaced by numbers, it is within the declarations, and the literals of
-- its effect are fluent
pub record IsNumberedSchema (all : Numbered) (schema : Schema) (number : LSchema) : Type 0 where
  pub resolved : IsResolvedSchema (meanings all.files) all.files.side schema number
  pub within : is_schema_in all number ≡ true
  pub fluent : is_schema_fluent all.predicates number ≡ true

-- schemas over numbers are those of the domain with their names replaced by numbers, in order, they are within the
-- declarations, and the literals of their effects are fluent
pub record AreNumberedSchemas (all : Numbered) (numbers : List LSchema) : Type 0 where
  pub resolved : AllZip (IsResolvedSchema (meanings all.files) all.files.side) all.files.domain.schemas numbers
  pub within : list_all (is_schema_in all) numbers ≡ true
  pub fluent : list_all (is_schema_fluent all.predicates) numbers ≡ true
