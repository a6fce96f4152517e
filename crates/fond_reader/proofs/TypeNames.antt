-- The types of a variable.
use Rattle.std.proofs.Common.{◌≡◌, ◌==◌, ◌&&◌, ◌||◌, true, not, List, ◌∷◌, map, length, Option, Some, Bor, Result, IfOk, IfSome, codes, sym, ap, subst, ◌∙◌}
use Rattle.std.proofs.Math.Bool.{or-true}
use Rattle.std.specs.List.{AllByRecursion}
use Rattle.fond_text.specs.Lists.{each_passes}
use Rattle.fond_tree.specs.declared.tree.Tree.{Tree}
use Rattle.fond_tree.specs.Trees.{members_of, leaf_of, is_node}
use Rattle.fond_ast.specs.declared.names.Kind.{Kind}
use Rattle.fond_tree.specs.Words.{is_word}
use Rattle.fond_tree.specs.declared.role.Role.TheVariants as role
use Rattle.fond_tree.specs.declared.role.FixedWord.TheVariants as fixed
use Rattle.fond_tree.specs.FormFaults.{Fits}
use Rattle.fond_tree.proofs.FittingLeaves.{word_fits}
use Rattle.fond_tree.proofs.FittingNodes.{IsEither, either_there}
use Rattle.fond_reader.specs.Forms.{is_form}
use Rattle.fond_reader.specs.Nodes.{is_headed}
use Rattle.fond_reader.specs.Sorts.{type_role}
use Rattle.fond_reader.specs.declared.typed.Sort.{Sort}
use Rattle.fond_reader.specs.Typed.{is_kind, is_one_kind, are_kinds}
use Rattle.fond_reader.proofs.Operators.{form_read}
use Rattle.fond_reader.proofs.Named.{headed_of}
use Rattle.fond_reader.proofs.Shapes.{some_read}
use Rattle.fond_reader.proofs.Through.{both_hold, if_ok}

-- a word that fits is that leaf
pub word_is : (tree : Tree) → Fits (role.Word fixed.Either) tree → is_word (codes "either") (leaf_of tree) ≡ true
word_is tree fits = let l = word_fits fixed.Either tree fits in ap (is_word (codes "either")) l.is ∙ l.passes

module _ (tree : Tree) (fits : Fits role.VariableType tree) (node : is_node tree ≡ true) where
  pub either_headed : is_headed (members_of tree) ≡ true
  either_headed = let e = either_there tree fits node in headed_of tree e.head (e.first ∷ e.names) e.whole

pub record Split (tree head : Tree) (names : List Tree) : Type 0 where
  pub fitting : IsEither tree
  pub same_head : head ≡ fitting.head
  pub same_names : names ≡ fitting.first ∷ fitting.names

module _ (tree head : Tree) (names : List Tree) (fits : Fits role.VariableType tree) (node : is_node tree ≡ true) (whole : members_of tree ≡ Some (head ∷ names)) where
  split : Split tree head names
  split =
      let e = either_there tree fits node in
      let both : Some (head ∷ names) ≡ Some (e.head ∷ e.first ∷ e.names) = sym whole ∙ e.whole in
      record { fitting = e; same_head = cc; same_names = cc }

  pub either_names : AllByRecursion (Fits role.Name) names
  either_names = subst (AllByRecursion (Fits role.Name)) (sym split.same_names) split.fitting.names_fit

  pub either_read : {E : Type 0} (result : Result (List Kind) E) → IfOk result (λ kinds. each_passes (map is_kind kinds) names ≡ true) → IfOk result (λ kinds. are_kinds kinds tree ≡ true)
  either_read result = if_ok _ _ result (λ kinds read.
      let count = some_read is_kind kinds _ _ (subst (λ ts. each_passes (map is_kind kinds) ts ≡ true) split.same_names read) in
      let form = form_read (codes "either") (map is_kind kinds) tree head names whole (ap (λ t. is_word (codes "either") (leaf_of t)) split.same_head ∙ word_is split.fitting.head split.fitting.head_fits) read in
      ap (λ b. is_one_kind kinds tree || b) (both_hold _ _ count form) ∙ or-true (is_one_kind kinds tree))

-- one name is read as the types of a variable
pub one_read : {E : Type 0} (tree : Tree) (result : Result (List Kind) E) → IfOk result (λ kinds. is_one_kind kinds tree ≡ true) → IfOk result (λ kinds. are_kinds kinds tree ≡ true)
one_read tree result = if_ok _ _ result (λ kinds read. ap (λ b. b || (not (length kinds == 0) && is_form (codes "either") (map is_kind kinds) tree)) read)

-- a type that is written fits the role of its list's types
pub kind_of_sort : (sort other : Sort) (kind : Option (Bor Tree)) (tree : Bor Tree) → sort ≡ other → kind ≡ Some tree → IfSome kind (λ t. Fits (type_role sort) t.now) → Fits (type_role other) tree.now
kind_of_sort sort other kind tree same is fits =
    subst (λ (s : Sort). Fits (type_role s) tree.now) same (subst (λ (k : Option (Bor Tree)). IfSome k (λ t. Fits (type_role sort) t.now)) is fits)
