-- Conditions and effects over numbers that are written ones, by their outermost forms.
use Rattle.std.proofs.Common.{◌≡◌, ◌≤◌, ◌++◌, ◌∷◌, [], ℕ, Bool, true, List, Some, length, slice_get, refl, sym, ap, ◌∙◌, append-nil, arith}
use Rattle.std.proofs.lemmas.Bool.Decides.{nat_tests}
use Rattle.std.proofs.lemmas.List.Folds.{list_all-append}
use Rattle.fond_text.specs.declared.code.TheConstants.{LONGEST_TEXT}
use Rattle.fond_ast.specs.Read.{has_few_variables, is_schema_with_choices, schema_variables}
use Rattle.fond_ast.specs.Within.{fluent_step, is_effect_fluent}
use Rattle.fond_ast.specs.declared.form.LCond.{LCond, out-LCond}
use Rattle.fond_ast.specs.declared.form.LCond.TheOpen as numbered_condition
use Rattle.fond_ast.specs.declared.form.LEffect.{LEffect, out-LEffect}
use Rattle.fond_ast.specs.declared.form.LEffect.TheOpen as numbered_effect
use Rattle.fond_ast.specs.declared.form.LEffect.TheFolds.{fold_out-LEffect, map-LEffect}
use Rattle.fond_ast.specs.declared.syntax.Cond.{Cond, out-Cond}
use Rattle.fond_ast.specs.declared.syntax.Cond.TheOpen as open_condition
use Rattle.fond_ast.specs.declared.syntax.Cond.TheFolds.{fold_out-Cond, map-Cond}
use Rattle.fond_ast.specs.declared.syntax.Effect.{Effect, out-Effect}
use Rattle.fond_ast.specs.declared.syntax.Effect.TheOpen as open_effect
use Rattle.fond_ast.specs.declared.syntax.Effect.TheFolds.{fold_out-Effect, map-Effect}
use Rattle.fond_ast.specs.declared.task.LPredicate.{LPredicate}
use Rattle.fond_ast.specs.declared.files.Schema.{Schema}
use Rattle.fond_names.specs.Names.{Declarations}
use Rattle.fond_names.specs.Sites.{AList, Scope, Site, condition_sites, domain_sites, effect_sites, schema_sites, variables_of}
use Rattle.fond_types.specs.Bodies.{IsSoundCondition, IsSoundEffect, IsSoundSchema}
use Rattle.fond_types.specs.Meanings.{are_typed, are_typed_around}
use Rattle.fond_types.specs.Sound.{are_sound, is_sound}
use Rattle.fond_names.proofs.Members.{all_got, and_both, and_parts}
use Rattle.fond_types.proofs.LiteralLemmas.{own_literals}
use Rattle.fond_types.proofs.WithinLemmas.{sound_flat}
use Rattle.fond_types.specs.Resolves.{Meanings, condition_step, effect_step, is_condition, is_effect}

module _ (meanings : Meanings) (around : Scope) where
  -- a condition over numbers is a written one if their outermost forms fit
  pub condition_read_by : (condition : Cond) (layer : open_condition.Cond-F Cond) (number : LCond) (form : numbered_condition.LCond-F LCond) → out-Cond condition ≡ layer → out-LCond number ≡ form →
      is_condition meanings condition around number ≡ condition_step meanings (map-Cond Cond (Scope → LCond → Bool) (is_condition meanings) layer) around form
  condition_read_by condition layer number form is out =
      let step : open_condition.Cond-F (Scope → LCond → Bool) → Scope → LCond → Bool = λ written around number. condition_step meanings written around (out-LCond number) in
      let both : is_condition meanings condition ≡ step (map-Cond Cond (Scope → LCond → Bool) (is_condition meanings) layer) =
      fold_out-Cond (Scope → LCond → Bool) step condition ∙ ap (λ x. step (map-Cond Cond (Scope → LCond → Bool) (is_condition meanings) x)) is in
      (λ i. both i around number) ∙ ap (condition_step meanings (map-Cond Cond (Scope → LCond → Bool) (is_condition meanings) layer) around) out

  -- an effect over numbers is a written one if their outermost forms fit
  pub effect_read_by : (effect : Effect) (layer : open_effect.Effect-F Effect) (number : LEffect) (form : numbered_effect.LEffect-F LEffect) → out-Effect effect ≡ layer → out-LEffect number ≡ form →
      is_effect meanings effect around number ≡ effect_step meanings (map-Effect Effect (Scope → LEffect → Bool) (is_effect meanings) layer) around form
  effect_read_by effect layer number form is out =
      let step : open_effect.Effect-F (Scope → LEffect → Bool) → Scope → LEffect → Bool = λ written around number. effect_step meanings written around (out-LEffect number) in
      let both : is_effect meanings effect ≡ step (map-Effect Effect (Scope → LEffect → Bool) (is_effect meanings) layer) =
      fold_out-Effect (Scope → LEffect → Bool) step effect ∙ ap (λ x. step (map-Effect Effect (Scope → LEffect → Bool) (is_effect meanings) x)) is in
      (λ i. both i around number) ∙ ap (effect_step meanings (map-Effect Effect (Scope → LEffect → Bool) (is_effect meanings) layer) around) out

-- the literals of an effect are fluent by its outermost form
pub fluent_by : (predicates : List LPredicate) (effect : LEffect) (layer : numbered_effect.LEffect-F LEffect) → out-LEffect effect ≡ layer →
    is_effect_fluent predicates effect ≡ fluent_step predicates (map-LEffect LEffect Bool (is_effect_fluent predicates) layer)
fluent_by predicates effect layer is = fold_out-LEffect Bool (fluent_step predicates) effect ∙ ap (λ x. fluent_step predicates (map-LEffect LEffect Bool (is_effect_fluent predicates) x)) is

-- the precondition and the effect of a sound schema are sound inside its parameters
pub sound_body : (files : Declarations) (schema : Schema) → IsSoundSchema files schema → IsSoundCondition files (schema.parameters ∷ []) schema.pre × IsSoundEffect files (schema.parameters ∷ []) schema.effect
sound_body files schema is = (
  record { sound = both.0; typed = typed; few = omega (arith, few, long) },
  record { sound = both.1; choices = is.choices; literals = is.literals; typed = typed; few = omega (arith, few, long) },
)
  where
    conditions : List Site
    conditions = condition_sites schema.pre (schema.parameters ∷ [])

    effects : List Site
    effects = effect_sites schema.effect (schema.parameters ∷ [])

    all : (is_sound files (AList schema.parameters) ≡ true) × (are_sound files (conditions ++ effects) ≡ true)
    all = and_parts (is_sound files (AList schema.parameters)) (are_sound files (conditions ++ effects)) is.sound

    both : (are_sound files conditions ≡ true) × (are_sound files effects ≡ true)
    both = and_parts (are_sound files conditions) (are_sound files effects) (sym (list_all-append (is_sound files) conditions effects) ∙ all.1)

    typed : are_typed_around files.domain.kinds (schema.parameters ∷ []) ≡ true
    typed = and_both (are_typed files.domain.kinds schema.parameters) true all.0 refl

    long : length (variables_of (schema.parameters ∷ [])) ≡ length schema.parameters
    long = ap length (append-nil schema.parameters)

    few : schema_variables schema ≤ LONGEST_TEXT
    few = grind (arith, nat_tests, is.few)

-- each schema of a sound domain is sound
pub sound_schema_at : (files : Declarations) → are_sound files (domain_sites files.domain) ≡ true → (i : ℕ) (schema : Schema) → slice_get files.domain.schemas i ≡ Some schema → IsSoundSchema files schema
sound_schema_at files sound i schema got = record {
  sound = all_got (λ (one : Schema). are_sound files (schema_sites one)) files.domain.schemas i schema got (sound_flat files schema_sites files.domain.schemas sound);
  choices = all_got is_schema_with_choices files.domain.schemas i schema got files.domain.choices;
  literals = own_literals files.domain i schema got;
  few = all_got has_few_variables files.domain.schemas i schema got files.domain.few_variables;
}
