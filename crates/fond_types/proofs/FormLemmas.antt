-- Parts of sound conditions and effects are sound.
use Rattle.std.proofs.Common.{◌≡◌, ◌≤◌, ℕ, ◌+◌, Bool, true, List, ◌∷◌, ◌++◌, length, sym, ap, ◌∙◌, subst, arith, length-append}
use Rattle.std.proofs.lemmas.List.Folds.{list_all-append}
use Rattle.fond_text.specs.declared.code.TheConstants.{LONGEST_TEXT}
use Rattle.fond_ast.specs.Read.{chooses_step, condition_variables, condition_variables_step, effect_variables, effect_variables_step, has_choices}
use Rattle.fond_ast.specs.declared.names.TypedName.{TypedName}
use Rattle.fond_ast.specs.declared.syntax.Cond.{Cond, out-Cond}
use Rattle.fond_ast.specs.declared.syntax.Cond.TheOpen as open_condition
use Rattle.fond_ast.specs.declared.syntax.Cond.TheFolds.{map-Cond}
use Rattle.fond_ast.specs.declared.syntax.Effect.{Effect, out-Effect}
use Rattle.fond_ast.specs.declared.syntax.Effect.TheOpen as open_effect
use Rattle.fond_ast.specs.declared.syntax.Effect.TheFolds.{fold_out-Effect, map-Effect}
use Rattle.fond_names.specs.Names.{Declarations}
use Rattle.fond_names.specs.Sites.{AList, Scope, Site, condition_sites, condition_sites_step, effect_sites, effect_sites_step, variables_of}
use Rattle.fond_types.specs.Bodies.{IsSoundCondition, IsSoundEffect}
use Rattle.fond_types.specs.Meanings.{are_typed, are_typed_around}
use Rattle.fond_types.specs.Sound.{are_sound, is_mentioned, is_sound, literals_pass, literals_step}
use Rattle.fond_names.proofs.Members.{and_both, and_parts}
use Rattle.fond_names.proofs.SiteLemmas.{condition_sites_by, condition_variables_by, effect_sites_by, effect_variables_by}
use Rattle.fond_types.proofs.LiteralLemmas.{literals_by}

module _ (files : Declarations) where
  -- the sites in each of two lists are sound if those of both are
  pub sound_both : (sites others : List Site) → are_sound files (sites ++ others) ≡ true → (are_sound files sites ≡ true) × (are_sound files others ≡ true)
  sound_both sites others sound = and_parts (are_sound files sites) (are_sound files others) (sym (list_all-append (is_sound files) sites others) ∙ sound)

  -- the first site of a list is sound, and so are the others, if all are
  pub sound_after : (site : Site) (sites : List Site) → are_sound files (site ∷ sites) ≡ true → (is_sound files site ≡ true) × (are_sound files sites ≡ true)
  sound_after site sites sound = and_parts (is_sound files site) (are_sound files sites) sound

  module _ (around : Scope) where
    -- the variables of a quantifier and those around it are typed
    pub typed_inside : (names : List TypedName) → is_sound files (AList names) ≡ true → are_typed_around files.domain.kinds around ≡ true → are_typed_around files.domain.kinds (names ∷ around) ≡ true
    typed_inside names typed outer = and_both (are_typed files.domain.kinds names) (are_typed_around files.domain.kinds around) typed outer

    -- variables that a quantifier declares count as variables around its part
    pub few_inside : (names : List TypedName) (count : ℕ) → length (variables_of around) + (length names + count) ≤ LONGEST_TEXT → length (variables_of (names ∷ around)) + count ≤ LONGEST_TEXT
    few_inside names count few =
        let all : length (variables_of (names ∷ around)) ≡ length names + length (variables_of around) = length-append names (variables_of around) in
        omega (arith, few, all)

    -- what a sound condition has, by its outermost form: sound sites, and few variables with those around it
    pub record IsSoundForm (layer : open_condition.Cond-F Cond) : Type 0 where
      pub sound : are_sound files (condition_sites_step (map-Cond Cond (Scope → List Site) condition_sites layer) around) ≡ true
      pub few : length (variables_of around) + condition_variables_step (map-Cond Cond ℕ condition_variables layer) ≤ LONGEST_TEXT

    pub sound_form : (condition : Cond) (layer : open_condition.Cond-F Cond) → out-Cond condition ≡ layer → IsSoundCondition files around condition → IsSoundForm layer
    sound_form condition layer is sound =
        record {
          sound = ap (are_sound files) (sym (condition_sites_by condition layer is around)) ∙ sound.sound;
          few = subst (λ (count : ℕ). length (variables_of around) + count ≤ LONGEST_TEXT) (condition_variables_by condition layer is) sound.few;
        }

    -- what a sound effect has, by its outermost form: also a member in each choice, and literals that are mentioned
    pub record IsSoundEffectForm (layer : open_effect.Effect-F Effect) : Type 0 where
      pub sound : are_sound files (effect_sites_step (map-Effect Effect (Scope → List Site) effect_sites layer) around) ≡ true
      pub choices : chooses_step (map-Effect Effect Bool has_choices layer) ≡ true
      pub literals : literals_step (is_mentioned files.domain) (map-Effect Effect Bool (literals_pass (is_mentioned files.domain)) layer) ≡ true
      pub few : length (variables_of around) + effect_variables_step (map-Effect Effect ℕ effect_variables layer) ≤ LONGEST_TEXT

    pub sound_effect_form : (effect : Effect) (layer : open_effect.Effect-F Effect) → out-Effect effect ≡ layer → IsSoundEffect files around effect → IsSoundEffectForm layer
    sound_effect_form effect layer is sound =
        let chosen : has_choices effect ≡ chooses_step (map-Effect Effect Bool has_choices layer) =
        fold_out-Effect Bool chooses_step effect ∙ ap (λ x. chooses_step (map-Effect Effect Bool has_choices x)) is in
        record {
          sound = ap (are_sound files) (sym (effect_sites_by effect layer is around)) ∙ sound.sound;
          choices = sym chosen ∙ sound.choices;
          literals = sym (literals_by (is_mentioned files.domain) effect layer is) ∙ sound.literals;
          few = subst (λ (count : ℕ). length (variables_of around) + count ≤ LONGEST_TEXT) (effect_variables_by effect layer is) sound.few;
        }
