-- The tokens that spell a tree may occur where a tree may, and they close as many parentheses as they open.
use Rattle.std.proofs.Common.{◌≡◌, ℕ, ◌+◌, ◌-◌, ◌≤◌, ◌<◌, Bool, true, false, cond, List, [], ◌∷◌, ◌++◌, length, refl, sym, ◌∙◌, ap, arith, append_assoc, append-nil, subst}
use Rattle.std.specs.List.{count_by, flat_map}
use Rattle.std.proofs.lemmas.Bool.{true≢false}
use Rattle.std.proofs.lemmas.List.Sums.{sum_by-append}
use Rattle.fond_text.specs.declared.code.TheConstants.{DEEPEST}
use Rattle.fond_text.specs.declared.place.Place.{Place}
use Rattle.fond_tree.specs.Faults.{Shape, Forest, is_opening, is_closing, opened, closed, AreRight}
use Rattle.fond_tree.specs.Marks.{Mark, tokens_of}
use Rattle.fond_tree.specs.Reading.{AreWithin}
use Rattle.fond_tree.specs.Spelling.{spelling, depth, depth_step}
use Rattle.fond_tree.specs.Tokens.{Token, Opens, Closes, Names}
use Rattle.fond_tree.specs.declared.tree.Tree.{Tree, Leaf, Node', Row_of-Tree, end_of-Tree, more_of-Tree, items-the_row-Tree, items_shown-the_row-Tree-0}
use Rattle.fond_tree.specs.declared.tree.Tree.TheVariants.{outs-Node'}
use Rattle.fond_tree.specs.declared.tree.Tree.TheFolds.{fold_out-Tree, map-Tree}
use Rattle.fond_tree.proofs.OneTree.{row_spelling, spelling-Node'}
use Rattle.fond_tree.proofs.Right.{AllMayStand, IsOpen, right_join, right_empty, anew_open, opened-append, closed-append}
use Rattle.fond_tree.proofs.Trees.{depths, within_to, spelling-Leaf, spelling_some}

depth-Node' : (place : Place) (shape : _) (row : Row_of-Tree _) → depth (Node' place shape row) ≡ 1 + depths (items-the_row-Tree _ row)
depth-Node' place shape row =
    fold_out-Tree ℕ depth_step (Node' place shape row) ∙ ap (λ x. depth_step (map-Tree Tree ℕ depth x)) (outs-Node' place shape row)
    ∙ ap (λ trees. 1 + depths trees) (items_shown-the_row-Tree-0 shape row)

mutual
  tree_may : (tree : Tree) (begun : Bool) (level : ℕ) (rest : List Token) → (begun ≡ true → 0 < level) → level + depth tree ≤ DEEPEST → AllMayStand true level rest → AllMayStand begun level (spelling tree ++ rest)
  tree_may (Leaf place name) begun level rest free small may = subst (λ (ts : List Token). AllMayStand begun level (ts ++ rest)) (sym (spelling-Leaf place name)) (free, may)
  tree_may (Node' place shape row) begun level rest free small may =
      let deep = depth-Node' place shape row in
      let back : level ≡ level + 1 - 1 = omega arith in
      let members = row_may row (level + 1) (depths (items-the_row-Tree _ row)) (Closes ∷ rest) (omega arith) (omega (arith, small, deep))
      (within_to (depths (items-the_row-Tree _ row)) 0 (items-the_row-Tree _ row) (omega arith)).1 (omega arith, subst (λ n. AllMayStand true n rest) back may) in
      subst (λ (ts : List Token). AllMayStand begun level (ts ++ rest)) (sym (spelling-Node' place shape row))
      ((free, omega (arith, small, deep)), subst (AllMayStand true (level + 1)) (sym (append_assoc (row_spelling row) (Closes ∷ []) rest)) members)

  row_may : {n : _} (row : Row_of-Tree n) (level left : ℕ) (rest : List Token) → 0 < level → level + left ≤ DEEPEST → AreWithin left (items-the_row-Tree n row) → AllMayStand true level rest →
      AllMayStand true level (row_spelling row ++ rest)
  row_may end_of-Tree level left rest some small all may = may
  row_may (more_of-Tree tree row) level left rest some small all may =
      subst (AllMayStand true level) (sym (append_assoc (spelling tree) (row_spelling row) rest))
      (tree_may tree true level (row_spelling row ++ rest) (λ e. some) (omega (arith, all.0)) (row_may row level left rest some small all.1 may))

trees_may : (trees : List Tree) (level left : ℕ) → 0 < level → level + left ≤ DEEPEST → AreWithin left trees → AllMayStand true level (flat_map spelling trees)
trees_may [] level left some small all = tt
trees_may (tree ∷ trees) level left some small all = tree_may tree true level (flat_map spelling trees) (λ e. some) (omega (arith, all.0)) (trees_may trees level left some small all.1)

-- after tokens that are right, those of a tree are right
pub tree_right : (shape : Shape) (tree : Tree) (before front : List Mark) (begun : Bool) (level : ℕ) → AreRight shape before → IsOpen shape before begun level → (begun ≡ true → 0 < level) →
    level + depth tree ≤ DEEPEST → tokens_of front ≡ spelling tree → AreRight shape (before ++ front)
tree_right shape tree before front begun level right o free small spelled =
    right_join shape before front begun level right o (subst (AllMayStand begun level) (append-nil (spelling tree) ∙ sym spelled) (tree_may tree begun level [] free small tt))

-- after tokens that are right and leave a parenthesis open, those of trees are right
pub trees_right : (shape : Shape) (trees : List Tree) (before front : List Mark) (level left : ℕ) → AreRight shape before → IsOpen shape before true level → 0 < level → level + left ≤ DEEPEST →
    AreWithin left trees → tokens_of front ≡ flat_map spelling trees → AreRight shape (before ++ front)
trees_right shape trees before front level left right o some small all spelled =
    right_join shape before front true level right o (subst (AllMayStand true level) (sym spelled) (trees_may trees level left some small all))

opens : List Token → ℕ
opens tokens = count_by is_opening tokens

shuts : List Token → ℕ
shuts tokens = count_by is_closing tokens

opens-append : (xs ys : List Token) → opens (xs ++ ys) ≡ opens xs + opens ys
unfolding opens
opens-append xs ys = sum_by-append (λ token. cond (is_opening token) 1 0) xs ys

shuts-append : (xs ys : List Token) → shuts (xs ++ ys) ≡ shuts xs + shuts ys
unfolding shuts
shuts-append xs ys = sum_by-append (λ token. cond (is_closing token) 1 0) xs ys

one_open : (place : Place) → (opens (Opens place ∷ []) ≡ 1) × (shuts (Opens place ∷ []) ≡ 0)
unfolding opens shuts
one_open place = (refl, refl)

one_shut : (opens (Closes ∷ []) ≡ 0) × (shuts (Closes ∷ []) ≡ 1)
unfolding opens shuts
one_shut = (refl, refl)

no_more : opens [] ≡ shuts []
unfolding opens shuts
no_more = refl

leaf_balanced : (place : Place) (name : List ℕ) → opens (Names place name ∷ []) ≡ shuts (Names place name ∷ [])
unfolding opens shuts
leaf_balanced place name = refl

node_balanced : (place : Place) (inner : List Token) → opens inner ≡ shuts inner → opens (Opens place ∷ (inner ++ Closes ∷ [])) ≡ shuts (Opens place ∷ (inner ++ Closes ∷ []))
node_balanced place inner e =
    let first = one_open place in
    omega (arith, e, first.0, first.1, one_shut.0, one_shut.1, opens-append (Opens place ∷ []) (inner ++ Closes ∷ []), shuts-append (Opens place ∷ []) (inner ++ Closes ∷ []), opens-append inner (Closes ∷ []), shuts-append inner (Closes ∷ []))

both_balanced : (xs ys : List Token) → opens xs ≡ shuts xs → opens ys ≡ shuts ys → opens (xs ++ ys) ≡ shuts (xs ++ ys)
both_balanced xs ys e f = omega (arith, e, f, opens-append xs ys, shuts-append xs ys)

mutual
  tree_balanced : (tree : Tree) → opens (spelling tree) ≡ shuts (spelling tree)
  tree_balanced (Leaf place name) = subst (λ (ts : List Token). opens ts ≡ shuts ts) (sym (spelling-Leaf place name)) (leaf_balanced place name)
  tree_balanced (Node' place shape row) = subst (λ (ts : List Token). opens ts ≡ shuts ts) (sym (spelling-Node' place shape row)) (node_balanced place (row_spelling row) (row_balanced row))

  row_balanced : {n : _} (row : Row_of-Tree n) → opens (row_spelling row) ≡ shuts (row_spelling row)
  row_balanced end_of-Tree = no_more
  row_balanced (more_of-Tree tree row) = both_balanced (spelling tree) (row_spelling row) (tree_balanced tree) (row_balanced row)

trees_balanced : (trees : List Tree) → opens (flat_map spelling trees) ≡ shuts (flat_map spelling trees)
trees_balanced [] = no_more
trees_balanced (tree ∷ trees) = both_balanced (spelling tree) (flat_map spelling trees) (tree_balanced tree) (trees_balanced trees)

count-tokens : (p : Token → Bool) (marks : List Mark) → count_by (λ mark. p mark.token) marks ≡ count_by p (tokens_of marks)
count-tokens p [] = refl
count-tokens p (mark ∷ marks) =
    sum_by-append (λ (mark : Mark). cond (p mark.token) 1 0) (mark ∷ []) marks ∙ ap (λ n. 0 + cond (p mark.token) 1 0 + n) (count-tokens p marks)
    ∙ sym (sum_by-append (λ (token : Token). cond (p token) 1 0) (mark.token ∷ []) (tokens_of marks))

same_counts : (front : List Mark) (spelled : List Token) → tokens_of front ≡ spelled → opens spelled ≡ shuts spelled → opened front ≡ closed front
unfolding opens shuts
same_counts front spelled e f = count-tokens is_opening front ∙ ap (λ ts. count_by is_opening ts) e ∙ f ∙ sym (count-tokens is_closing front ∙ ap (λ ts. count_by is_closing ts) e)

pub front_balanced : (tree : Tree) (front : List Mark) → tokens_of front ≡ spelling tree → opened front ≡ closed front
front_balanced tree front e = same_counts front (spelling tree) e (tree_balanced tree)

pub fronts_balanced : (trees : List Tree) (front : List Mark) → tokens_of front ≡ flat_map spelling trees → opened front ≡ closed front
fronts_balanced trees front e = same_counts front (flat_map spelling trees) e (trees_balanced trees)

pub front_some : (tree : Tree) (front : List Mark) → tokens_of front ≡ spelling tree → ¬ front ≡ []
front_some tree front e none = absurd (omega (arith, spelling_some tree, ap length (sym (ap tokens_of none) ∙ e)))

-- tokens that spell one thing and then another are in two parts
parts : (one other : List Token) (front : List Mark) → tokens_of front ≡ one ++ other → (first rest : List Mark) × (front ≡ first ++ rest) × (tokens_of first ≡ one) × (tokens_of rest ≡ other)
parts [] other front e = ([], front, refl, refl, e)
parts (token ∷ one) other [] e = absurd cc
parts (token ∷ one) other (mark ∷ front) e = let heads = both mark.token token _ _ e in further heads.0 (parts one other front heads.1) where
  both : (x y : Token) (some more : List Token) → x ∷ some ≡ y ∷ more → (x ≡ y) × (some ≡ more)
  both x y some more e = (cc, cc)

  further : mark.token ≡ token → (first rest : List Mark) × (front ≡ first ++ rest) × (tokens_of first ≡ one) × (tokens_of rest ≡ other) →
      (first rest : List Mark) × (mark ∷ front ≡ first ++ rest) × (tokens_of first ≡ token ∷ one) × (tokens_of rest ≡ other)
  further same h = (mark ∷ h.0, h.1, ap (λ ms. mark ∷ ms) h.2, (λ i. same i ∷ h.3 i), h.4)

-- in a forest, the tokens of trees are right after tokens that are right and leave nothing open
more_right : (trees : List Tree) (before front : List Mark) → AreRight Forest before → opened before ≡ closed before → AreWithin DEEPEST trees → tokens_of front ≡ flat_map spelling trees →
    AreRight Forest (before ++ front)
more_right [] before [] right shut all spelled = subst (AreRight Forest) (sym (append-nil before)) right
more_right [] before (mark ∷ front) right shut all spelled = absurd cc
more_right (tree ∷ trees) before front right shut all spelled =
    let part = parts (spelling tree) (flat_map spelling trees) front spelled in
    let same = front_balanced tree part.0 part.3 in
    let small : 0 + depth tree ≤ DEEPEST = omega (arith, all.0) in
    let first = tree_right Forest tree before part.0 false 0 right (anew_open before shut) (λ e. absurd (true≢false (sym e))) small part.3 in
    let level : opened (before ++ part.0) ≡ closed (before ++ part.0) = omega (arith, same, shut, opened-append before part.0, closed-append before part.0) in
    subst (AreRight Forest) (append_assoc before part.0 part.1 ∙ ap (λ ms. before ++ ms) (sym part.2)) (more_right trees (before ++ part.0) part.1 first level all.1 part.4)

-- the tokens of a forest are right
pub forest_right : (trees : List Tree) (front : List Mark) → AreWithin DEEPEST trees → tokens_of front ≡ flat_map spelling trees → AreRight Forest front
forest_right trees front all spelled = more_right trees [] front (right_empty Forest) refl all spelled
