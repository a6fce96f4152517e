-- The number of tokens that spell a tree.
use Rattle.std.proofs.Common.{◌≡◌, ℕ, zero, suc, ◌+◌, ◌≤◌, ◌<◌, List, [], ◌∷◌, map, length, get_or, Some, refl, ap, ◌∙◌, arith}
use Rattle.std.specs.List.{flat_map}
use Rattle.std.proofs.lemmas.List.{length-append}
use Rattle.std.proofs.lemmas.List.Folds.{flat_map-map}
use Rattle.fond_tree.specs.Spelling.{spelling, spelling_step}
use Rattle.fond_tree.specs.Tokens.{Token, Closes}
use Rattle.fond_tree.specs.Trees.{members_of, members_step}
use Rattle.fond_tree.specs.declared.tree.Tree.{Tree, out-Tree}
use Rattle.fond_tree.specs.declared.tree.Tree.TheOpen.{Tree-F, Leaf, Node}
use Rattle.fond_tree.specs.declared.tree.Tree.TheFolds.{fold_out-Tree, map-Tree}
use Rattle.fond_tree.proofs.Trees.{spelling_some}

-- the number of tokens of a tree
pub weight : Tree → ℕ
weight tree = length (spelling tree)

-- the number of tokens of several trees
pub weights : List Tree → ℕ
weights [] = 0
weights (tree ∷ trees) = weight tree + weights trees

pub weight_is : (tree : Tree) → weight tree ≡ length (spelling tree)
unfolding weight
weight_is tree = refl

pub weights_first : (tree : Tree) (trees : List Tree) → weights (tree ∷ trees) ≡ weight tree + weights trees
unfolding weights
weights_first tree trees = refl

pub weights_none : weights [] ≡ 0
unfolding weights
weights_none = refl

pub weight_some : (tree : Tree) → 0 < weight tree
unfolding weight
weight_some tree = spelling_some tree

weights_are : (trees : List Tree) → length (flat_map spelling trees) ≡ weights trees
unfolding weight weights
weights_are [] = refl
weights_are (t ∷ ts) = length-append (spelling t) (flat_map spelling ts) ∙ ap (λ n. length (spelling t) + n) (weights_are ts)

-- a node has two tokens more than its members
pub node_weight : (tree : Tree) (members : List Tree) → members_of tree ≡ Some members → weight tree ≡ weights members + 2
unfolding weight
node_weight tree members is =
    let spelled = fold_out-Tree (List Token) spelling_step tree in
    ap length spelled ∙ from (out-Tree tree) is where
      from : (layer : Tree-F Tree) → members_step layer ≡ Some members → length (spelling_step (map-Tree Tree (List Token) spelling layer)) ≡ weights members + 2
      from (Leaf place name) h = cc
      from (Node place inner) h =
          let same : inner.items ≡ members = cc in
          let count = length-append (flat_map (λ x. x) (map spelling inner.items)) (Closes ∷ []) in
          let flat = ap length (flat_map-map (λ (x : List Token). x) spelling inner.items) in
          let all = weights_are inner.items ∙ ap weights same in
          omega (arith, count, flat, all)

-- the members after the first one are lighter than their node
pub after_lighter : (tree head : Tree) (after : List Tree) → members_of tree ≡ Some (head ∷ after) → weights after + 3 ≤ weight tree
after_lighter tree head after is = omega (arith, node_weight tree (head ∷ after) is, weights_first head after, weight_some head)

-- a tree of a list is no heavier than all
pub item_weight : (trees : List Tree) (i : ℕ) (tree : Tree) → i < length trees → tree ≡ get_or trees i tree → weight tree ≤ weights trees
item_weight [] i tree below at = absurd (omega arith)
item_weight (t ∷ ts) zero tree below at = omega (arith, ap weight at, weights_first t ts)
item_weight (t ∷ ts) (suc i) tree below at = omega (arith, item_weight ts i tree (omega arith) at, weights_first t ts)
