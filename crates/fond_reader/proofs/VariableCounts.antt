-- The variables that conditions, effects and schemas declare are no more than the tokens of their trees.
use Rattle.std.proofs.Common.{◌≡◌, ℕ, ◌+◌, ◌==◌, ◌≤◌, not, Bool, true, List, [], ◌∷◌, length, map, sum, codes, sym, ap, subst, ◌∙◌, arith}
use Rattle.std.proofs.lemmas.List.Sums.{sum_by-cons}
use Rattle.fond_text.specs.Lists.{each_passes}
use Rattle.fond_ast.specs.Read.{condition_variables_step, condition_variables, effect_variables_step, effect_variables}
use Rattle.fond_ast.specs.declared.syntax.Cond.{Cond, roll-Cond}
use Rattle.fond_ast.specs.declared.syntax.Cond.TheOpen as open_condition
use Rattle.fond_ast.specs.declared.syntax.Cond.TheFolds.{fold-roll-Cond, map-Cond, ind-Cond}
use Rattle.fond_ast.specs.declared.syntax.Effect.{Effect, roll-Effect}
use Rattle.fond_ast.specs.declared.syntax.Effect.TheOpen as open_effect
use Rattle.fond_ast.specs.declared.syntax.Effect.TheFolds.{fold-roll-Effect, map-Effect, ind-Effect}
use Rattle.fond_tree.specs.declared.tree.Tree.{Tree}
use Rattle.fond_reader.specs.Bodies.{condition_step, is_condition, effect_step, is_effect}
use Rattle.fond_reader.specs.Forms.{is_form}
use Rattle.fond_reader.specs.Typed.{is_variable_list}
use Rattle.fond_reader.proofs.Counts.{list_counted}
use Rattle.fond_reader.proofs.Shapes.{form_there, one_operand, two_operands}
use Rattle.fond_reader.proofs.Through.{first_of_both, second_of_both}
use Rattle.fond_reader.proofs.Weights.{weight, weights, weights_first, after_lighter}

-- the operands of a form are lighter than its node
module _ (word : List ℕ) (tree : Tree) where
  each_lighter : (reads : List (Tree → Bool)) (count : ℕ) → ((trees : List Tree) → each_passes reads trees ≡ true → count ≤ weights trees) →
      is_form word reads tree ≡ true → count ≤ weight tree
  each_lighter reads count few is =
      let form = form_there word reads tree is in
      omega (arith, few form.after form.read, after_lighter tree form.has.head form.after form.has.whole)

one_few : (read : Tree → Bool) (count : ℕ) → ((tree : Tree) → read tree ≡ true → count ≤ weight tree) → (trees : List Tree) → each_passes (read ∷ []) trees ≡ true → count ≤ weights trees
one_few read count few trees is =
    let one = one_operand read trees is in
    omega (arith, few one.0 one.2, ap weights one.1, weights_first one.0 [])

two_few : (read other : Tree → Bool) (count more : ℕ) → ((tree : Tree) → read tree ≡ true → count ≤ weight tree) → ((tree : Tree) → other tree ≡ true → more ≤ weight tree) →
    (trees : List Tree) → each_passes (read ∷ other ∷ []) trees ≡ true → count + more ≤ weights trees
two_few read other count more few fewer trees is =
    let two = two_operands read other trees is in
    omega (arith, few two.0 two.3, fewer two.1 two.4, ap weights two.2, weights_first two.0 (two.1 ∷ []), weights_first two.1 [])

few_names : (names : List _) (tree : Tree) → is_variable_list names tree ≡ true → length names ≤ weight tree
few_names names tree is = omega (arith, list_counted names tree is)

-- ---- conditions

abbrev FewVariables : Cond → Type 0
FewVariables condition = (tree : Tree) → is_condition condition tree ≡ true → condition_variables condition ≤ weight tree

of_layer : (layer : open_condition.Cond-F Cond) →
    ((tree : Tree) → condition_step (map-Cond Cond (Tree → Bool) is_condition layer) tree ≡ true → condition_variables_step (map-Cond Cond ℕ condition_variables layer) ≤ weight tree) → FewVariables (roll-Cond layer)
of_layer layer step tree is =
    let few = step tree (sym (ap (λ reads. reads tree) (fold-roll-Cond (Tree → Bool) condition_step layer)) ∙ is) in
    subst (λ (n : ℕ). n ≤ weight tree) (sym (fold-roll-Cond ℕ condition_variables_step layer)) few

parts_few : (parts : List ((condition : Cond) × FewVariables condition)) (trees : List Tree) → each_passes (map is_condition (map (λ part. part.0) parts)) trees ≡ true →
    sum (map condition_variables (map (λ part. part.0) parts)) ≤ weights trees
parts_few [] trees is = omega arith
parts_few (part ∷ parts) [] is = absurd (cc)
parts_few (part ∷ parts) (tree ∷ trees) is =
    omega (arith, part.1 tree (first_of_both _ _ is), parts_few parts trees (second_of_both (is_condition part.0 tree) _ is), weights_first tree trees, sum_by-cons (λ (n : ℕ). n) (condition_variables part.0) (map condition_variables (map (λ p. p.0) parts)))

layer_few : (y : open_condition.Cond-F ((condition : Cond) × FewVariables condition)) (tree : Tree) →
    condition_step (map-Cond Cond (Tree → Bool) is_condition (map-Cond ((condition : Cond) × FewVariables condition) Cond (λ part. part.0) y)) tree ≡ true →
    condition_variables_step (map-Cond Cond ℕ condition_variables (map-Cond ((condition : Cond) × FewVariables condition) Cond (λ part. part.0) y)) ≤ weight tree
layer_few open_condition.Truth tree is = omega arith
layer_few (open_condition.Holds atom) tree is = omega arith
layer_few (open_condition.Equal term other) tree is = omega arith
layer_few (open_condition.And parts) tree is = each_lighter (codes "and") tree (map is_condition (map (λ part. part.0) parts.items)) _ (parts_few parts.items) is
layer_few (open_condition.Or parts) tree is = each_lighter (codes "or") tree (map is_condition (map (λ part. part.0) parts.items)) _ (parts_few parts.items) is
layer_few (open_condition.Not part) tree is = each_lighter (codes "not") tree (is_condition part.value.0 ∷ []) _ (one_few (is_condition part.value.0) _ part.value.1) is
layer_few (open_condition.Imply part other) tree is =
    each_lighter (codes "imply") tree (is_condition part.value.0 ∷ is_condition other.value.0 ∷ []) _ (two_few (is_condition part.value.0) (is_condition other.value.0) _ _ part.value.1 other.value.1) is
layer_few (open_condition.Forall names part) tree is =
    each_lighter (codes "forall") tree (is_variable_list names ∷ is_condition part.value.0 ∷ []) _ (two_few (is_variable_list names) (is_condition part.value.0) _ _ (few_names names) part.value.1) is
layer_few (open_condition.Exists names part) tree is =
    each_lighter (codes "exists") tree (is_variable_list names ∷ is_condition part.value.0 ∷ []) _ (two_few (is_variable_list names) (is_condition part.value.0) _ _ (few_names names) part.value.1) is

-- a condition that is read declares no more variables than its tree has tokens
pub condition_few : (condition : Cond) → FewVariables condition
condition_few = ind-Cond FewVariables (λ x y is.
    subst (λ (layer : open_condition.Cond-F Cond). FewVariables (roll-Cond layer)) is
    (of_layer (map-Cond ((condition : Cond) × FewVariables condition) Cond (λ part. part.0) y) (layer_few y)))

-- ---- effects

abbrev FewInEffect : Effect → Type 0
FewInEffect effect = (tree : Tree) → is_effect effect tree ≡ true → effect_variables effect ≤ weight tree

of_effect_layer : (layer : open_effect.Effect-F Effect) →
    ((tree : Tree) → effect_step (map-Effect Effect (Tree → Bool) is_effect layer) tree ≡ true → effect_variables_step (map-Effect Effect ℕ effect_variables layer) ≤ weight tree) → FewInEffect (roll-Effect layer)
of_effect_layer layer step tree is =
    let few = step tree (sym (ap (λ reads. reads tree) (fold-roll-Effect (Tree → Bool) effect_step layer)) ∙ is) in
    subst (λ (n : ℕ). n ≤ weight tree) (sym (fold-roll-Effect ℕ effect_variables_step layer)) few

effects_few : (parts : List ((effect : Effect) × FewInEffect effect)) (trees : List Tree) → each_passes (map is_effect (map (λ part. part.0) parts)) trees ≡ true →
    sum (map effect_variables (map (λ part. part.0) parts)) ≤ weights trees
effects_few [] trees is = omega arith
effects_few (part ∷ parts) [] is = absurd (cc)
effects_few (part ∷ parts) (tree ∷ trees) is =
    omega (arith, part.1 tree (first_of_both _ _ is), effects_few parts trees (second_of_both (is_effect part.0 tree) _ is), weights_first tree trees, sum_by-cons (λ (n : ℕ). n) (effect_variables part.0) (map effect_variables (map (λ p. p.0) parts)))

effect_layer_few : (y : open_effect.Effect-F ((effect : Effect) × FewInEffect effect)) (tree : Tree) →
    effect_step (map-Effect Effect (Tree → Bool) is_effect (map-Effect ((effect : Effect) × FewInEffect effect) Effect (λ part. part.0) y)) tree ≡ true →
    effect_variables_step (map-Effect Effect ℕ effect_variables (map-Effect ((effect : Effect) × FewInEffect effect) Effect (λ part. part.0) y)) ≤ weight tree
effect_layer_few open_effect.Nothing tree is = omega arith
effect_layer_few (open_effect.Add atom) tree is = omega arith
effect_layer_few (open_effect.Delete atom) tree is = omega arith
effect_layer_few (open_effect.And parts) tree is = each_lighter (codes "and") tree (map is_effect (map (λ part. part.0) parts.items)) _ (effects_few parts.items) is
effect_layer_few (open_effect.Forall names part) tree is =
    each_lighter (codes "forall") tree (is_variable_list names ∷ is_effect part.value.0 ∷ []) _ (two_few (is_variable_list names) (is_effect part.value.0) _ _ (few_names names) part.value.1) is
effect_layer_few (open_effect.When condition part) tree is =
    each_lighter (codes "when") tree (is_condition condition ∷ is_effect part.value.0 ∷ []) _ (two_few (is_condition condition) (is_effect part.value.0) _ _ (condition_few condition) part.value.1) is
effect_layer_few (open_effect.OneOf parts) tree is =
    each_lighter (codes "oneof") tree (map is_effect (map (λ part. part.0) parts.items)) _ (effects_few parts.items)
    (second_of_both (not (length (map is_effect (map (λ part. part.0) parts.items)) == 0)) _ is)

-- and so does an effect
pub effect_few : (effect : Effect) → FewInEffect effect
effect_few = ind-Effect FewInEffect (λ x y is.
    subst (λ (layer : open_effect.Effect-F Effect). FewInEffect (roll-Effect layer)) is
    (of_effect_layer (map-Effect ((effect : Effect) × FewInEffect effect) Effect (λ part. part.0) y) (effect_layer_few y)))
