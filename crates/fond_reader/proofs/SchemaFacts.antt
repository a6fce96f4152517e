-- Facts of schemas that are read: they declare few variables, and their choices have members.
use Rattle.std.proofs.Common.{◌≡◌, ℕ, ◌+◌, ◌==◌, ◌≤◌, not, Bool, true, false, List, [], ◌∷◌, length, map, Option, codes, refl, sym, ap, subst, ◌∙◌, arith, if◌then◌else◌}
use Rattle.std.specs.List.{list_all}
use Rattle.std.proofs.lemmas.Bool.{le-leb}
use Rattle.std.proofs.lemmas.List.{length-map}
use Rattle.fond_text.specs.Lists.{each_passes}
use Rattle.fond_text.specs.declared.code.TheConstants.{LONGEST_TEXT}
use Rattle.fond_ast.specs.Read.{condition_variables_step, condition_variables, effect_variables_step, effect_variables, schema_variables, has_few_variables, chooses_step, has_choices, is_schema_with_choices}
use Rattle.fond_ast.specs.declared.names.TypedName.{TypedName}
use Rattle.fond_ast.specs.declared.files.Schema.{Schema}
use Rattle.fond_ast.specs.declared.syntax.Cond.{Cond}
use Rattle.fond_ast.specs.declared.syntax.Cond.TheVariants as made_condition
use Rattle.fond_ast.specs.declared.syntax.Cond.TheOpen as open_condition
use Rattle.fond_ast.specs.declared.syntax.Cond.TheFolds.{fold-roll-Cond}
use Rattle.fond_ast.specs.declared.syntax.Effect.{Effect, roll-Effect}
use Rattle.fond_ast.specs.declared.syntax.Effect.TheVariants as made_effect
use Rattle.fond_ast.specs.declared.syntax.Effect.TheOpen as open_effect
use Rattle.fond_ast.specs.declared.syntax.Effect.TheFolds.{fold-roll-Effect, map-Effect, ind-Effect}
use Rattle.fond_tree.specs.declared.tree.Tree.{Tree}
use Rattle.fond_tree.specs.Trees.{leaf_of}
use Rattle.fond_tree.specs.Words.{is_word}
use Rattle.fond_reader.specs.Bodies.{is_condition, effect_step, is_effect}
use Rattle.fond_reader.specs.Typed.{is_variable_list}
use Rattle.fond_reader.specs.Files.{values, AreParameters, IsPrecondition, IsKeyedEffect, IsSchemaOf, AreSchemasOf}
use Rattle.fond_reader.proofs.Counts.{list_counted}
use Rattle.fond_tree.proofs.Again.{word_is as leaf_is}
use Rattle.fond_reader.proofs.Shapes.{form_there, two_operands}
use Rattle.fond_reader.proofs.Through.{first_of_both, second_of_both, both_hold}
use Rattle.fond_reader.proofs.VariableCounts.{condition_few, effect_few}
use Rattle.fond_reader.proofs.Weights.{weight, weights, weights_first, weights_none, after_lighter}

-- ---- variables

-- a leaf is one of the three keys at most
one_key : (leaf : Option (List ℕ)) (parameters pre effect : Bool) → is_word (codes ":parameters") leaf ≡ parameters → is_word (codes ":precondition") leaf ≡ pre → is_word (codes ":effect") leaf ≡ effect →
    (value p c e all : ℕ) → p + c + e ≤ all → (if parameters then value + p else p) + (if pre then value + c else c) + (if effect then value + e else e) ≤ value + all
one_key leaf true pre effect ip ic ie value p c e all few =
    let leaf_is_p = leaf_is (codes ":parameters") leaf ip in
    let no_c : pre ≡ false = sym ic ∙ ap (is_word (codes ":precondition")) leaf_is_p in
    let no_e : effect ≡ false = sym ie ∙ ap (is_word (codes ":effect")) leaf_is_p in
    rw (no_c, no_e) (omega arith)
one_key leaf false true effect ip ic ie value p c e all few =
    let leaf_is_c = leaf_is (codes ":precondition") leaf ic in
    let no_e : effect ≡ false = sym ie ∙ ap (is_word (codes ":effect")) leaf_is_c in
    rw no_e (omega arith)
one_key leaf false false true ip ic ie value p c e all few = omega arith
one_key leaf false false false ip ic ie value p c e all few = omega arith

values_first : (word : List ℕ) (key value : Tree) (pairs : List Tree) →
    weights (values word (key ∷ value ∷ pairs)) ≡ (if is_word word (leaf_of key) then weight value + weights (values word pairs) else weights (values word pairs))
values_first word key value pairs = from (is_word word (leaf_of key)) where
  from : (b : Bool) → weights (if b then value ∷ values word pairs else values word pairs) ≡ (if b then weight value + weights (values word pairs) else weights (values word pairs))
  from true = weights_first value (values word pairs)
  from false = refl

values_weigh : (pairs : List Tree) → weights (values (codes ":parameters") pairs) + weights (values (codes ":precondition") pairs) + weights (values (codes ":effect") pairs) ≤ weights pairs
values_weigh [] = omega (arith, weights_none)
values_weigh (key ∷ []) = omega (arith, weights_none)
values_weigh (key ∷ value ∷ pairs) =
    let few = one_key (leaf_of key) _ _ _ refl refl refl (weight value) (weights (values (codes ":parameters") pairs)) (weights (values (codes ":precondition") pairs)) (weights (values (codes ":effect") pairs))
    (weights pairs) (values_weigh pairs) in
    omega (arith, few, values_first (codes ":parameters") key value pairs, values_first (codes ":precondition") key value pairs, values_first (codes ":effect") key value pairs, weights_first key (value ∷ pairs), weights_first value pairs)

parameters_few : (trees : List Tree) (names : List TypedName) → AreParameters trees names → length names ≤ weights trees
parameters_few [] names is = omega (arith, ap length is)
parameters_few (t ∷ ts) names is = omega (arith, list_counted names t is.0, weights_first t ts)

pre_few : (trees : List Tree) (pre : Cond) → IsPrecondition trees pre → condition_variables pre ≤ weights trees
pre_few [] pre is =
    let none : condition_variables pre ≡ 0 = ap condition_variables (is ∙ sym made_condition.rolls-Truth) ∙ fold-roll-Cond ℕ condition_variables_step open_condition.Truth in
    omega arith
pre_few (t ∷ ts) pre is = omega (arith, condition_few pre t is.0, weights_first t ts)

keyed_few : (trees : List Tree) (effect : Effect) → IsKeyedEffect trees effect → effect_variables effect ≤ weights trees
keyed_few [] effect is =
    let none : effect_variables effect ≡ 0 = ap effect_variables (is ∙ sym made_effect.rolls-Nothing) ∙ fold-roll-Effect ℕ effect_variables_step open_effect.Nothing in
    omega arith
keyed_few (t ∷ ts) effect is = omega (arith, effect_few effect t is.0, weights_first t ts)

schema_few : (tree : Tree) (schema : Schema) → IsSchemaOf tree schema → schema_variables schema ≤ weight tree
schema_few tree schema is =
    omega (
      arith,
      parameters_few _ schema.parameters is.parameters,
      pre_few _ schema.pre is.pre,
      keyed_few _ schema.effect is.effect,
      values_weigh is.pairs,
      after_lighter tree is.head (is.name ∷ is.pairs) is.whole,
      weights_first is.name is.pairs,
    )

pub schemas_few : (trees : List Tree) (schemas : List Schema) → AreSchemasOf trees schemas → weights trees ≤ LONGEST_TEXT → list_all has_few_variables schemas ≡ true
schemas_few [] [] are short = refl
schemas_few [] (schema ∷ schemas) are short = absurd are
schemas_few (t ∷ ts) [] are short = refl
schemas_few (t ∷ ts) (schema ∷ schemas) are short =
    both_hold _ _ (le-leb (schema_variables schema) LONGEST_TEXT (omega (arith, schema_few t schema are.0, weights_first t ts))) (schemas_few ts schemas are.1 (omega (arith, weights_first t ts)))

-- ---- choices

abbrev Chooses : Effect → Type 0
Chooses effect = (tree : Tree) → is_effect effect tree ≡ true → has_choices effect ≡ true

-- an effect by its outer form
chooses_of : (layer : open_effect.Effect-F Effect) →
    ((tree : Tree) → effect_step (map-Effect Effect (Tree → Bool) is_effect layer) tree ≡ true → chooses_step (map-Effect Effect Bool has_choices layer) ≡ true) → Chooses (roll-Effect layer)
chooses_of layer step tree is =
    fold-roll-Effect Bool chooses_step layer ∙ step tree (sym (ap (λ reads. reads tree) (fold-roll-Effect (Tree → Bool) effect_step layer)) ∙ is)

parts_choose : (parts : List ((effect : Effect) × Chooses effect)) (trees : List Tree) → each_passes (map is_effect (map (λ part. part.0) parts)) trees ≡ true →
    list_all (λ b. b) (map has_choices (map (λ part. part.0) parts)) ≡ true
parts_choose [] trees is = refl
parts_choose (part ∷ parts) [] is = absurd (cc)
parts_choose (part ∷ parts) (tree ∷ trees) is = both_hold _ _ (part.1 tree (first_of_both _ _ is)) (parts_choose parts trees (second_of_both (is_effect part.0 tree) _ is))

-- an effect whose parts are such effects
layer_chooses : (y : open_effect.Effect-F ((effect : Effect) × Chooses effect)) (tree : Tree) →
    effect_step (map-Effect Effect (Tree → Bool) is_effect (map-Effect ((effect : Effect) × Chooses effect) Effect (λ part. part.0) y)) tree ≡ true →
    chooses_step (map-Effect Effect Bool has_choices (map-Effect ((effect : Effect) × Chooses effect) Effect (λ part. part.0) y)) ≡ true
layer_chooses open_effect.Nothing tree is = refl
layer_chooses (open_effect.Add atom) tree is = refl
layer_chooses (open_effect.Delete atom) tree is = refl
layer_chooses (open_effect.And parts) tree is =
    let form = form_there (codes "and") (map is_effect (map (λ part. part.0) parts.items)) tree is in parts_choose parts.items form.after form.read
layer_chooses (open_effect.Forall names part) tree is =
    let form = form_there (codes "forall") (is_variable_list names ∷ is_effect part.value.0 ∷ []) tree is in
    let two = two_operands (is_variable_list names) (is_effect part.value.0) form.after form.read in
    part.value.1 two.1 two.4
layer_chooses (open_effect.When condition part) tree is =
    let form = form_there (codes "when") (is_condition condition ∷ is_effect part.value.0 ∷ []) tree is in
    let two = two_operands (is_condition condition) (is_effect part.value.0) form.after form.read in
    part.value.1 two.1 two.4
layer_chooses (open_effect.OneOf parts) tree is =
    let effects : List Effect = map (λ part. part.0) parts.items in
    let form = form_there (codes "oneof") (map is_effect effects) tree (second_of_both (not (length (map is_effect effects) == 0)) _ is) in
    let some : not (length (map has_choices effects) == 0) ≡ true = ap (λ n. not (n == 0)) (length-map effects has_choices ∙ sym (length-map effects is_effect)) ∙ first_of_both _ _ is in
    both_hold _ _ some (parts_choose parts.items form.after form.read)

-- the choices of an effect that is read have members
read_chooses : (effect : Effect) → Chooses effect
read_chooses = ind-Effect Chooses (λ x y is.
    subst (λ (layer : open_effect.Effect-F Effect). Chooses (roll-Effect layer)) is
    (chooses_of (map-Effect ((effect : Effect) × Chooses effect) Effect (λ part. part.0) y) (layer_chooses y)))

keyed_chooses : (trees : List Tree) (effect : Effect) → IsKeyedEffect trees effect → has_choices effect ≡ true
keyed_chooses [] effect is = ap has_choices (is ∙ sym made_effect.rolls-Nothing) ∙ fold-roll-Effect Bool chooses_step open_effect.Nothing
keyed_chooses (tree ∷ trees) effect is = read_chooses effect tree is.0

-- and so have those of schemas that are read
pub schemas_choose : (trees : List Tree) (schemas : List Schema) → AreSchemasOf trees schemas → list_all is_schema_with_choices schemas ≡ true
schemas_choose [] [] are = refl
schemas_choose [] (schema ∷ schemas) are = absurd are
schemas_choose (tree ∷ trees) [] are = refl
schemas_choose (tree ∷ trees) (schema ∷ schemas) are = both_hold _ _ (keyed_chooses (values (codes ":effect") are.0.pairs) schema.effect are.0.effect) (schemas_choose trees schemas are.1)
