-- What trees spell, by cases on the tree.
use Rattle.std.proofs.Common.{◌≡◌, ℕ, ◌+◌, ◌≤◌, ◌<◌, List, [], ◌∷◌, ◌++◌, map, max, refl, sym, ◌∙◌, ap, ◌⊎◌, inl, inr, ⊎_elim, arith, Vec, Global, length}
use Rattle.std.specs.List.{flat_map, fold}
use Rattle.std.proofs.lemmas.List.Folds.{flat_map-map}
use Rattle.fond_text.specs.declared.place.Place.{Place}
use Rattle.fond_tree.specs.Tokens.{Token, Opens, Closes, Names}
use Rattle.fond_tree.specs.Reading.{AreWithin}
use Rattle.fond_tree.specs.Spelling.{spelling, spelling_step, depth, depth_step}
use Rattle.fond_tree.specs.declared.tree.Tree.{Tree, out-Tree}
use Rattle.fond_tree.specs.declared.tree.Tree.TheOpen.{Tree-F, Leaf, Node}
use Rattle.fond_tree.specs.declared.tree.Tree.TheVariants as made
use Rattle.fond_tree.specs.declared.tree.Tree.TheFolds.{fold_out-Tree, map-Tree}

-- the depth of the deepest tree
abbrev pub depths : List Tree → ℕ
depths trees = fold max 0 (map depth trees)

pub record IsLeafTree (tree : Tree) : Type 0 where
  pub place : Place
  pub name : List ℕ
  pub spelled : spelling tree ≡ Names place name ∷ []

pub record IsNodeTree (tree : Tree) : Type 0 where
  pub place : Place
  pub members : List Tree
  pub spelled : spelling tree ≡ Opens place ∷ (flat_map spelling members ++ Closes ∷ [])
  pub deep : depth tree ≡ 1 + depths members

pub cases_of : (tree : Tree) → IsLeafTree tree ⊎ IsNodeTree tree
cases_of tree = from (out-Tree tree) refl where
  from : (layer : Tree-F Tree) → out-Tree tree ≡ layer → IsLeafTree tree ⊎ IsNodeTree tree
  from (Leaf place name) e = inl (record { place = place; name = name; spelled = fold_out-Tree (List Token) spelling_step tree ∙ ap (λ x. spelling_step (map-Tree Tree (List Token) spelling x)) e })
  from (Node place members) e = inr (record {
    place = place;
    members = members.items;
    spelled = fold_out-Tree (List Token) spelling_step tree ∙ ap (λ x. spelling_step (map-Tree Tree (List Token) spelling x)) e ∙ ap (λ ts. Opens place ∷ (ts ++ Closes ∷ [])) (flat_map-map (λ x. x) spelling members.items);
    deep = fold_out-Tree ℕ depth_step tree ∙ ap (λ x. depth_step (map-Tree Tree ℕ depth x)) e;
  })

pub spelling-Leaf : (place : Place) (name : List ℕ) → spelling (made.Leaf place name) ≡ Names place name ∷ []
spelling-Leaf place name = fold_out-Tree (List Token) spelling_step (made.Leaf place name) ∙ ap (λ x. spelling_step (map-Tree Tree (List Token) spelling x)) (made.outs-Leaf place name)

pub depth-Leaf : (place : Place) (name : List ℕ) → depth (made.Leaf place name) ≡ 0
depth-Leaf place name = fold_out-Tree ℕ depth_step (made.Leaf place name) ∙ ap (λ x. depth_step (map-Tree Tree ℕ depth x)) (made.outs-Leaf place name)

pub spelling-Node : (place : Place) (members : Vec Tree Global) → spelling (made.Node place members) ≡ Opens place ∷ (flat_map spelling members.items ++ Closes ∷ [])
spelling-Node place members =
    fold_out-Tree (List Token) spelling_step (made.Node place members) ∙ ap (λ x. spelling_step (map-Tree Tree (List Token) spelling x)) (made.outs-Node place members)
    ∙ ap (λ ts. Opens place ∷ (ts ++ Closes ∷ [])) (flat_map-map (λ x. x) spelling members.items)

pub depth-Node : (place : Place) (members : Vec Tree Global) → depth (made.Node place members) ≡ 1 + depths members.items
depth-Node place members = fold_out-Tree ℕ depth_step (made.Node place members) ∙ ap (λ x. depth_step (map-Tree Tree ℕ depth x)) (made.outs-Node place members)

-- the deepest tree is within a bound if and only if all are
pub within_from : (left most : ℕ) (trees : List Tree) → most ≤ left → AreWithin left trees → fold max most (map depth trees) ≤ left
within_from left most [] small all = small
within_from left most (t ∷ ts) small all = within_from left (max most (depth t)) ts (omega (arith, all.0)) all.1

pub within_to : (left most : ℕ) (trees : List Tree) → fold max most (map depth trees) ≤ left → (most ≤ left) × AreWithin left trees
within_to left most [] small = (small, tt)
within_to left most (t ∷ ts) small =
    let rest = within_to left (max most (depth t)) ts small in (omega (arith, rest.0), (omega (arith, rest.0), rest.1))

-- a tree begins with no closing parenthesis
pub no_closing : (tree : Tree) (more rest : List Token) → ¬ spelling tree ++ more ≡ Closes ∷ rest
no_closing tree more rest e =
    ⊎_elim (λ (l : IsLeafTree tree). apart_leaf l.place l.name more rest (sym (ap (λ ts. ts ++ more) l.spelled) ∙ e))
    (λ (n : IsNodeTree tree). apart_node n.place (flat_map spelling n.members ++ Closes ∷ []) more rest (sym (ap (λ ts. ts ++ more) n.spelled) ∙ e)) (cases_of tree) where
      apart_leaf : (place : Place) (name : List ℕ) (more rest : List Token) → ¬ Names place name ∷ more ≡ Closes ∷ rest
      apart_leaf place name more rest e = cc

      apart_node : (place : Place) (inner more rest : List Token) → ¬ Opens place ∷ (inner ++ more) ≡ Closes ∷ rest
      apart_node place inner more rest e = cc

pub spelling_some : (tree : Tree) → 0 < length (spelling tree)
spelling_some tree =
    ⊎_elim (λ (l : IsLeafTree tree). omega (arith, ap length l.spelled)) (λ (n : IsNodeTree tree). omega (arith, ap length n.spelled)) (cases_of tree)

pub within_push : (left : ℕ) (trees : List Tree) (tree : Tree) → AreWithin left trees → depth tree ≤ left → AreWithin left (trees ++ tree ∷ [])
within_push left [] tree all small = (small, tt)
within_push left (t ∷ ts) tree all small = (all.0, within_push left ts tree all.1 small)
