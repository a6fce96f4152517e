-- Operators before operands: what a node is read as by its head.
use Rattle.std.proofs.Common.{◌≡◌, ℕ, ◌-◌, ◌≤◌, ◌==◌, Bool, true, not, map, codes, refl, List, [], ◌∷◌, take, drop, length, get_or, Some, Vec, Global, sym, subst, ap, ◌∙◌, arith}
use Rattle.std.proofs.lemmas.Bool.Decides.{nat_tests}
use Rattle.std.specs.List.{AllZip}
use Rattle.std.specs.Str.{bytes_eq}
use Rattle.fond_text.specs.Lists.{each_passes}
use Rattle.fond_text.specs.declared.place.Place.{Place}
use Rattle.fond_tree.specs.declared.tree.Tree.{Tree}
use Rattle.fond_tree.specs.declared.tree.Tree.TheVariants as made
use Rattle.fond_tree.specs.Trees.{members_of, members_step, leaf_of}
use Rattle.fond_ast.specs.declared.syntax.Cond.{Cond, out-Cond}
use Rattle.fond_ast.specs.declared.syntax.Cond.TheOpen.{Cond-F}
use Rattle.fond_ast.specs.declared.syntax.Cond.TheFolds.{fold_out-Cond, map-Cond}
use Rattle.fond_ast.specs.declared.syntax.Effect.{Effect, out-Effect}
use Rattle.fond_ast.specs.declared.syntax.Effect.TheOpen.{Effect-F}
use Rattle.fond_ast.specs.declared.syntax.Effect.TheOpen as open_effect
use Rattle.fond_ast.specs.declared.syntax.Effect.TheVariants as effect
use Rattle.fond_ast.specs.declared.syntax.Effect.TheFolds.{fold_out-Effect, map-Effect}
use Rattle.fond_tree.specs.declared.role.Role.{Role}
use Rattle.fond_tree.specs.Words.{is_word}
use Rattle.fond_tree.specs.FormFaults.{Fits}
use Rattle.fond_tree.proofs.Heads.{HasHead}
use Rattle.fond_reader.specs.Bodies.{condition_step, is_condition, effect_step, is_effect}
use Rattle.fond_reader.specs.Forms.{are_operands, is_form}
use Rattle.fond_reader.proofs.Through.{both_hold, first_and_rest}

-- the members of a node
pub members_are : (tree : Tree) (place : Place) (members : Vec Tree Global) (all : List Tree) → tree ≡ made.Node place members → all ≡ members.items → members_of tree ≡ Some all
members_are tree place members all is same = ap members_of is ∙ ap members_step (made.outs-Node place members) ∙ ap (λ ts. Some ts) (sym same)

-- a node by its first member and the rest
pub headed_by : (tree : Tree) (place : Place) (members : Vec Tree Global) (all : List Tree) (head : Tree) → tree ≡ made.Node place members → all ≡ members.items → 1 ≤ length all → head ≡ get_or all 0 head →
    members_of tree ≡ Some (head ∷ take (length all - 1) (drop 1 all))
headed_by tree place members all head is same some at = members_are tree place members all is same ∙ ap (λ ts. Some ts) (first_and_rest all head some at)

pub has_head : (tree : Tree) (place : Place) (members : Vec Tree Global) (all : List Tree) (head : Tree) (word : List ℕ) → tree ≡ made.Node place members → all ≡ members.items → 1 ≤ length all → head ≡ get_or all 0 head →
    leaf_of head ≡ Some word → HasHead tree word (take (length all - 1) (drop 1 all))
has_head tree place members all head word is same some at leaf = record { head = head; whole = headed_by tree place members all head is same some at; leaf = leaf }

-- a node of a word and operands that are read is read as a form
pub form_read : (word : List ℕ) (reads : List (Tree → Bool)) (tree head : Tree) (after : List Tree) → members_of tree ≡ Some (head ∷ after) → is_word word (leaf_of head) ≡ true → each_passes reads after ≡ true → is_form word reads tree ≡ true
form_read word reads tree head after is same read = ap (are_operands word reads) is ∙ both_hold _ _ same read

pub operands_read : (tree : Tree) (word other : List ℕ) (after : List Tree) (reads : List (Tree → Bool)) → HasHead tree word after → bytes_eq word other ≡ true → each_passes reads after ≡ true → is_form other reads tree ≡ true
operands_read tree word other after reads has same read = form_read other reads tree has.head after has.whole (ap (is_word other) has.leaf ∙ same) read

-- a condition and an effect are read by their outer forms
pub condition_made : (condition : Cond) (layer : Cond-F Cond) (tree : Tree) → out-Cond condition ≡ layer → condition_step (map-Cond Cond (Tree → Bool) is_condition layer) tree ≡ true → is_condition condition tree ≡ true
condition_made condition layer tree out is =
    ap (λ reads. reads tree) (fold_out-Cond (Tree → Bool) condition_step condition) ∙ ap (λ l. condition_step (map-Cond Cond (Tree → Bool) is_condition l) tree) out ∙ is

pub effect_made : (effect : Effect) (layer : Effect-F Effect) (tree : Tree) → out-Effect effect ≡ layer → effect_step (map-Effect Effect (Tree → Bool) is_effect layer) tree ≡ true → is_effect effect tree ≡ true
effect_made effect layer tree out is =
    ap (λ reads. reads tree) (fold_out-Effect (Tree → Bool) effect_step effect) ∙ ap (λ l. effect_step (map-Effect Effect (Tree → Bool) is_effect l) tree) out ∙ is

-- a tree that is a leaf does not fit where a node is expected
pub no_leaf : (of : Role) (tree : Tree) (place : Place) (name : List ℕ) → ((tree : Tree) → Fits of tree → (members : List Tree) × (members_of tree ≡ Some members)) → tree ≡ made.Leaf place name → ¬ Fits of tree
no_leaf of tree place name node is fits =
    let there = node tree fits in
    let leaf = ap members_of is ∙ ap members_step (made.outs-Leaf place name) in
    let both = sym there.1 ∙ leaf in
    absurd (cc)

-- of trees that fit one by one, the first and the second fit
pub first_of : (role : Role) (roles : List Role) (trees : List Tree) (tree : Tree) → AllZip Fits (role ∷ roles) trees → tree ≡ get_or trees 0 tree → Fits role tree
first_of role roles [] tree fit at = absurd fit
first_of role roles (t ∷ ts) tree fit at = subst (Fits role) (sym at) fit.0

pub second_of : (role other : Role) (roles : List Role) (trees : List Tree) (tree : Tree) → AllZip Fits (role ∷ other ∷ roles) trees → tree ≡ get_or trees 1 tree → Fits other tree
second_of role other roles [] tree fit at = absurd fit
second_of role other roles (t ∷ ts) tree fit at = first_of other roles ts tree fit.1 at

-- a choice that has a member is read by its operands
pub choice_read : (tree : Tree) (word : List ℕ) (after : List Tree) (parts : Vec Effect Global) → out-Effect (effect.OneOf parts) ≡ open_effect.OneOf parts → HasHead tree word after → bytes_eq word (codes "oneof") ≡ true →
    (¬ after ≡ []) → each_passes (map is_effect parts.items) after ≡ true → is_effect (effect.OneOf parts) tree ≡ true
choice_read tree word after parts out has same some read =
    effect_made (effect.OneOf parts) (open_effect.OneOf parts) tree out
    (both_hold _ _ (count parts.items after some read) (operands_read tree word (codes "oneof") after (map is_effect parts.items) has same read)) where
      count : (effects : List Effect) (trees : List Tree) → (¬ trees ≡ []) → each_passes (map is_effect effects) trees ≡ true → not (length (map is_effect effects) == 0) ≡ true
      count [] [] some read = absurd (some refl)
      count [] (t ∷ ts) some read = cc
      count (e ∷ es) trees some read = grind (arith, nat_tests)
