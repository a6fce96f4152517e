-- What the tokens of a tree say of it: whether it is a node of leaves, and whether it is a name alone.
use Rattle.std.proofs.Common.{◌≡◌, ℕ, ◌≤◌, ◌&&◌, ◌||◌, Bool, true, false, not, List, [], ◌∷◌, ◌++◌, length, nat_lt, nat_eq, refl, sym, ap, ◌∙◌, Some, None, is_some, ◌⊎◌, inl, inr, arith, length-append}
use Rattle.std.specs.List.{flat_map, list_any, list_all}
use Rattle.std.proofs.lemmas.Bool.Decides.{nat_tests}
use Rattle.std.proofs.lemmas.List.Folds.{flat_map-map, list_any-append}
use Rattle.fond_text.specs.declared.place.Place.{Place}
use Rattle.fond_tree.specs.Marks.{tokens}
use Rattle.fond_tree.specs.Tokens.{Token, Opens, Closes, Names, Stray}
use Rattle.fond_tree.specs.Spelling.{IsReadAs, spelling, spelling_step}
use Rattle.fond_tree.specs.declared.tree.Tree.{Tree, out-Tree}
use Rattle.fond_tree.specs.declared.tree.Tree.TheOpen.{Tree-F, Leaf, Node}
use Rattle.fond_tree.specs.declared.tree.Tree.TheFolds.{fold_out-Tree, map-Tree}
use Rattle.fond_tree.specs.Trees.{leaf_of, members_of, leaf_step, members_step}
use Rattle.fond_succ.specs.Actions.{IsAction, is_leaf_node}

-- a tree is a leaf of this place and name
pub record IsLeafTree (tree : Tree) : Type 0 where
  pub place : Place
  pub name : List ℕ
  pub leaf : leaf_of tree ≡ Some name
  pub none : members_of tree ≡ None
  pub spelled : spelling tree ≡ Names place name ∷ []

-- a tree is a node of this place and these members
pub record IsNodeTree (tree : Tree) : Type 0 where
  pub place : Place
  pub members : List Tree
  pub leaf : leaf_of tree ≡ None
  pub some : members_of tree ≡ Some members
  pub spelled : spelling tree ≡ Opens place ∷ (flat_map spelling members ++ Closes ∷ [])

pub cases_of : (tree : Tree) → IsLeafTree tree ⊎ IsNodeTree tree
cases_of tree = from (out-Tree tree) refl
  where
    from : (layer : Tree-F Tree) → out-Tree tree ≡ layer → IsLeafTree tree ⊎ IsNodeTree tree
    from (Leaf place name) e = inl (record {
      place = place;
      name = name;
      leaf = ap leaf_step e;
      none = ap members_step e;
      spelled = fold_out-Tree (List Token) spelling_step tree ∙ ap (λ x. spelling_step (map-Tree Tree (List Token) spelling x)) e;
    })
    from (Node place members) e = inr (record {
      place = place;
      members = members.items;
      leaf = ap leaf_step e;
      some = ap members_step e;
      spelled =
          fold_out-Tree (List Token) spelling_step tree ∙ ap (λ x. spelling_step (map-Tree Tree (List Token) spelling x)) e
          ∙ ap (λ ts. Opens place ∷ (ts ++ Closes ∷ [])) (flat_map-map (λ x. x) spelling members.items);
    })

-- whether a token is an opening parenthesis
abbrev pub is_opening : Token → Bool
is_opening (Opens place) = true
is_opening Closes = false
is_opening (Names place name) = false
is_opening Stray = false

-- whether tokens are an opening parenthesis, at least one more token, and no other opening parenthesis before
-- the last token
abbrev pub are_node_of_leaves : List Token → Bool
are_node_of_leaves [] = false
are_node_of_leaves (Opens place ∷ rest) = not (list_any is_opening rest) && nat_lt 1 (length rest)
are_node_of_leaves (Closes ∷ rest) = false
are_node_of_leaves (Names place name ∷ rest) = false
are_node_of_leaves (Stray ∷ rest) = false

-- an opening parenthesis stands in what spells a tree, or in more tokens, where the tree is no leaf, or in those
opening_before : (tree : Tree) (any all : Bool) → any ≡ not all → IsLeafTree tree ⊎ IsNodeTree tree → (list_any is_opening (spelling tree) || any) ≡ not (is_some (leaf_of tree) && all)
opening_before tree any all e (inl h) = rw (h.spelled, h.leaf) e
opening_before tree any all e (inr h) = rw (h.spelled, h.leaf) refl

-- an opening parenthesis stands in what spells trees where one of them is no leaf
opening_of : (trees : List Tree) → list_any is_opening (flat_map spelling trees) ≡ not (list_all (λ tree. is_some (leaf_of tree)) trees)
opening_of [] = refl
opening_of (tree ∷ trees) =
    list_any-append is_opening (spelling tree) (flat_map spelling trees)
    ∙ opening_before tree (list_any is_opening (flat_map spelling trees)) (list_all (λ other. is_some (leaf_of other)) trees) (opening_of trees) (cases_of tree)

-- what spells trees is as long as they are many
long_of : (trees : List Tree) → length trees ≤ length (flat_map spelling trees)
long_of [] = omega arith
long_of (tree ∷ trees) =
    let rest = long_of trees in
    let whole = length-append (spelling tree) (flat_map spelling trees) in
    let one : 1 ≤ length (spelling tree) = from (cases_of tree) in
    omega (arith, rest, whole, one)
  where
    from : IsLeafTree tree ⊎ IsNodeTree tree → 1 ≤ length (spelling tree)
    from (inl h) = rw h.spelled (omega arith)
    from (inr h) = rw h.spelled (omega arith)

turned_twice : (b : Bool) → (true && b) ≡ (not (not b || false) && true)
turned_twice true = refl
turned_twice false = refl

-- members that are all leaves, and their tokens before a closing parenthesis
members_of_leaves : (trees : List Tree) →
    (not (nat_eq (length trees) 0) && list_all (λ tree. is_some (leaf_of tree)) trees)
    ≡ (not (list_any is_opening (flat_map spelling trees ++ Closes ∷ [])) && nat_lt 1 (length (flat_map spelling trees ++ Closes ∷ [])))
members_of_leaves [] = refl
members_of_leaves (tree ∷ trees) =
    let long = long_of (tree ∷ trees) in
    let whole = length-append (flat_map spelling (tree ∷ trees)) (Closes ∷ []) in
    let some : nat_eq (length (tree ∷ trees)) 0 ≡ false = grind (arith, nat_tests) in
    let more : nat_lt 1 (length (flat_map spelling (tree ∷ trees) ++ Closes ∷ [])) ≡ true = grind (arith, nat_tests, long, whole) in
    let all = list_all (λ other. is_some (leaf_of other)) (tree ∷ trees) in
    let opened : list_any is_opening (flat_map spelling (tree ∷ trees) ++ Closes ∷ []) ≡ (not all || false) =
    list_any-append is_opening (flat_map spelling (tree ∷ trees)) (Closes ∷ []) ∙ ap (λ b. b || false) (opening_of (tree ∷ trees)) in
    ap (λ b. not b && all) some ∙ turned_twice all ∙ sym (ap (λ b. not b && nat_lt 1 (length (flat_map spelling (tree ∷ trees) ++ Closes ∷ []))) opened ∙ ap (λ b. not (not all || false) && b) more)

-- a tree is a node of leaves where its tokens say so
pub node_of_leaves : (tree : Tree) → is_leaf_node tree ≡ are_node_of_leaves (spelling tree)
node_of_leaves tree = from (cases_of tree)
  where
    from : IsLeafTree tree ⊎ IsNodeTree tree → is_leaf_node tree ≡ are_node_of_leaves (spelling tree)
    from (inl h) = rw (h.none, h.spelled) refl
    from (inr h) = rw (h.some, h.spelled) (members_of_leaves h.members)

-- two trees that one word is read as are nodes of leaves or not alike
pub same_leaves : (tree other : Tree) (pieces : List Token) → pieces ≡ spelling tree → pieces ≡ spelling other → is_leaf_node tree ≡ is_leaf_node other
same_leaves tree other pieces e f = node_of_leaves tree ∙ ap are_node_of_leaves (sym e ∙ f) ∙ sym (node_of_leaves other)

-- a word that is read as a tree that is no node of leaves spells no action
pub no_action : (word : List ℕ) (tree : Tree) → IsReadAs word tree → is_leaf_node tree ≡ false → ¬ IsAction word
no_action word tree read none action =
    let same : is_leaf_node tree ≡ is_leaf_node action.0 = same_leaves tree action.0 (tokens word) read.spelled action.1.spelled in
    let never : true ≡ false = sym action.2 ∙ sym same ∙ none in cc
