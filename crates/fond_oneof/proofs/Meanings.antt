-- The meanings of the outcomes of effects, and their numbers, by the forms of the effects.
use Rattle.std.proofs.Common.{◌≡◌, ◌∙◌, ℕ, Bool, true, List, [], ◌∷◌, ◌&&◌, Vec, Box, Global, map, refl, sym, ap}
use Rattle.std.specs.Prelude.{fold}
use Rattle.std.specs.List.{flat_map, list_all}
use Rattle.fond_text.specs.Lists.{concatenations}
use Rattle.fond_task.specs.declared.form.Form.{Form}
use Rattle.fond_task.specs.declared.form.Kleene.{Kleene}
use Rattle.fond_task.specs.declared.form.Kleene.TheVariants.{No, Unknown, Yes}
use Rattle.fond_task.specs.Values.{least, lesser, value}
use Rattle.fond_task.specs.Within.{is_form_within}
use Rattle.fond_oneof.specs.declared.effect.GroundEffect.{GroundEffect}
use Rattle.fond_oneof.specs.declared.effect.GroundEffect.TheVariants.{Literal as LiteralOf, And, OneOf, When, rolls-Literal, rolls-And, rolls-OneOf, rolls-When}
use Rattle.fond_oneof.specs.declared.effect.GroundEffect.TheOpen as open_effect
use Rattle.fond_oneof.specs.declared.effect.GroundEffect.TheFolds.{fold-roll-GroundEffect}
use Rattle.fond_oneof.specs.Outcomes.{Literal, guarded, outcome_lists, outcomes_step}
use Rattle.fond_oneof.specs.Shown.{shown_literal, shown_lists, shown_under}
use Rattle.fond_oneof.proofs.Lists.{map_map, map_same, map-concatenations, map-flat}

pub outcomes-Literal : (atom : ℕ) (add : Bool) → outcome_lists (LiteralOf atom add) ≡ (record { conditions = []; atom = atom; add = add } ∷ []) ∷ []
outcomes-Literal atom add = ap outcome_lists (sym (rolls-Literal atom add)) ∙ fold-roll-GroundEffect (List (List Literal)) outcomes_step (open_effect.Literal atom add)

pub outcomes-And : (parts : Vec GroundEffect Global) → outcome_lists (And parts) ≡ concatenations (map outcome_lists parts.items)
outcomes-And parts = ap outcome_lists (sym (rolls-And parts)) ∙ fold-roll-GroundEffect (List (List Literal)) outcomes_step (open_effect.And parts)

pub outcomes-OneOf : (parts : Vec GroundEffect Global) → outcome_lists (OneOf parts) ≡ flat_map (λ part. part) (map outcome_lists parts.items)
outcomes-OneOf parts = ap outcome_lists (sym (rolls-OneOf parts)) ∙ fold-roll-GroundEffect (List (List Literal)) outcomes_step (open_effect.OneOf parts)

pub outcomes-When : (condition : Form) (part : Box GroundEffect Global) → outcome_lists (When condition part) ≡ map (map (guarded condition)) (outcome_lists part.value)
outcomes-When condition part = ap outcome_lists (sym (rolls-When condition part)) ∙ fold-roll-GroundEffect (List (List Literal)) outcomes_step (open_effect.When condition part)

lesser_assoc : (a b c : Kleene) → lesser (lesser a b) c ≡ lesser a (lesser b c)
lesser_assoc No b c = refl
lesser_assoc Unknown No c = refl
lesser_assoc Unknown Unknown No = refl
lesser_assoc Unknown Unknown Unknown = refl
lesser_assoc Unknown Unknown Yes = refl
lesser_assoc Unknown Yes c = refl
lesser_assoc Yes b c = refl

pub lesser_last : (a : Kleene) → lesser a Yes ≡ a
lesser_last No = refl
lesser_last Unknown = refl
lesser_last Yes = refl

fold_from : (a b : Kleene) (values : List Kleene) → fold lesser (lesser a b) values ≡ lesser a (fold lesser b values)
fold_from a b [] = refl
fold_from a b (v ∷ values) = ap (λ u. fold lesser u values) (lesser_assoc a b v) ∙ fold_from a (lesser b v) values

-- the least of a value and others
pub least_first : (a : Kleene) (values : List Kleene) → least (a ∷ values) ≡ lesser a (least values)
least_first a values = ap (λ u. fold lesser u values) (sym (lesser_last a)) ∙ fold_from a Yes values

-- the meaning of a literal under one more condition
under : (condition : Form) (literal : Literal) → shown_literal (guarded condition literal) ≡ shown_under condition (shown_literal literal)
under condition literal = λ i. record {
  atom = literal.atom;
  add = literal.add;
  value = λ cube. least_first (value cube condition) (map (value cube) literal.conditions) i;
  within = λ atoms. is_form_within atoms condition && list_all (is_form_within atoms) literal.conditions;
}

pub shown-Literal : (atom : ℕ) (add : Bool) → shown_lists (LiteralOf atom add) ≡ (record { atom = atom; add = add; value = λ cube. Yes; within = λ atoms. true } ∷ []) ∷ []
shown-Literal atom add = ap (map (map shown_literal)) (outcomes-Literal atom add)

pub shown-And : (parts : Vec GroundEffect Global) → shown_lists (And parts) ≡ concatenations (map shown_lists parts.items)
shown-And parts = ap (map (map shown_literal)) (outcomes-And parts) ∙ map-concatenations shown_literal outcome_lists parts.items

pub shown-OneOf : (parts : Vec GroundEffect Global) → shown_lists (OneOf parts) ≡ flat_map (λ part. part) (map shown_lists parts.items)
shown-OneOf parts = ap (map (map shown_literal)) (outcomes-OneOf parts) ∙ map-flat (map shown_literal) outcome_lists parts.items

pub shown-When : (condition : Form) (part : Box GroundEffect Global) → shown_lists (When condition part) ≡ map (map (shown_under condition)) (shown_lists part.value)
shown-When condition part =
    ap (map (map shown_literal)) (outcomes-When condition part)
    ∙ map_map (map shown_literal) (map (guarded condition)) (outcome_lists part.value)
    ∙ map_same _ _ (λ (list : List Literal). map_map shown_literal (guarded condition) list ∙ map_same _ _ (under condition) list ∙ sym (map_map (shown_under condition) shown_literal list)) (outcome_lists part.value)
    ∙ sym (map_map (map (shown_under condition)) (map shown_literal) (outcome_lists part.value))
