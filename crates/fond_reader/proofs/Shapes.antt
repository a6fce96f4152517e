-- What a node is that is read as a form, and lists that are read item by item.
use Rattle.std.proofs.Common.{◌≡◌, ℕ, ◌==◌, not, Bool, true, false, List, [], ◌∷◌, length, map, Option, Some, None, refl, sym, ap, ◌∙◌, arith}
use Rattle.std.proofs.lemmas.Bool.Decides.{nat_tests}
use Rattle.std.proofs.lemmas.List.{length-map}
use Rattle.fond_text.specs.Lists.{each_passes}
use Rattle.fond_tree.specs.declared.tree.Tree.{Tree}
use Rattle.fond_tree.specs.Trees.{members_of, leaf_of}
use Rattle.fond_tree.proofs.Again.{word_is as leaf_is}
use Rattle.fond_tree.specs.Words.{is_word}
use Rattle.fond_tree.proofs.Heads.{HasHead}
use Rattle.fond_reader.specs.Forms.{are_operands, is_form, is_unit, is_empty}
use Rattle.fond_reader.specs.Typed.{is_variable_list, are_variables}
use Rattle.fond_reader.proofs.Lengths.{empty}
use Rattle.fond_reader.proofs.Through.{first_of_both, second_of_both}

-- a node of a word, after which operands are read
pub record IsForm (word : List ℕ) (reads : List (Tree → Bool)) (tree : Tree) : Type 0 where
  pub after : List Tree
  pub has : HasHead tree word after
  pub read : each_passes reads after ≡ true

pub form_there : (word : List ℕ) (reads : List (Tree → Bool)) (tree : Tree) → is_form word reads tree ≡ true → IsForm word reads tree
form_there word reads tree is = from (members_of tree) refl is where
  from : (members : Option (List Tree)) → members_of tree ≡ members → are_operands word reads members ≡ true → IsForm word reads tree
  from None whole h = absurd (cc)
  from (Some []) whole h = absurd (cc)
  from (Some (head ∷ after)) whole h = record {
    after = after;
    has = record { head = head; whole = whole; leaf = leaf_is word (leaf_of head) (first_of_both _ _ h) };
    read = second_of_both (is_word word (leaf_of head)) _ h;
  }

pub unit_there : (tree : Tree) → is_unit tree ≡ true → members_of tree ≡ Some []
unit_there tree is = from (members_of tree) is where
  from : (members : Option (List Tree)) → is_empty members ≡ true → members ≡ Some []
  from None h = absurd (cc)
  from (Some ms) h = ap (λ xs. Some xs) (empty ms h)

-- one operand, or two
pub one_operand : (read : Tree → Bool) (trees : List Tree) → each_passes (read ∷ []) trees ≡ true → (tree : Tree) × (trees ≡ tree ∷ []) × (read tree ≡ true)
one_operand read [] is = absurd (cc)
one_operand read (t ∷ []) is = (t, refl, first_of_both _ _ is)
one_operand read (t ∷ u ∷ us) is = let none = second_of_both (read t) false is in absurd (cc)

pub two_operands : (read other : Tree → Bool) (trees : List Tree) → each_passes (read ∷ other ∷ []) trees ≡ true →
    (tree : Tree) × (second : Tree) × (trees ≡ tree ∷ second ∷ []) × (read tree ≡ true) × (other second ≡ true)
two_operands read other [] is = absurd (cc)
two_operands read other (t ∷ ts) is =
    let rest = one_operand other ts (second_of_both (read t) _ is) in
    (t, rest.0, ap (λ us. t ∷ us) rest.1, first_of_both _ _ is, rest.2)

-- there are as many items as tests that they pass
pub as_many : {T : Type 0} (tests : List (T → Bool)) (items : List T) → each_passes tests items ≡ true → length tests ≡ length items
as_many [] [] is = refl
as_many [] (t ∷ ts) is = absurd (cc)
as_many (p ∷ ps) [] is = absurd (cc)
as_many (p ∷ ps) (t ∷ ts) is = let rest = as_many ps ts (second_of_both (p t) _ is) in omega arith

pub as_many_read : {X T : Type 0} (read : X → T → Bool) (xs : List X) (items : List T) → each_passes (map read xs) items ≡ true → length xs ≡ length items
as_many_read read xs items is = sym (length-map xs read) ∙ as_many (map read xs) items is

-- variables are read from the members of a node
pub variables_are : (tree : Tree) (names : List _) → is_variable_list names tree ≡ true → (members : List Tree) × (members_of tree ≡ Some members) × (are_variables names members ≡ true)
variables_are tree names is = from (members_of tree) refl where
  from : (members : Option (List Tree)) → members_of tree ≡ members → (ms : List Tree) × (members_of tree ≡ Some ms) × (are_variables names ms ≡ true)
  from None whole = absurd (let h = rw whole at is in cc)
  from (Some ms) whole = (ms, whole, rw whole at is)

-- what is read from some items is not nothing
pub some_read : {X T : Type 0} (read : X → T → Bool) (xs : List X) (first : T) (items : List T) → each_passes (map read xs) (first ∷ items) ≡ true → not (length xs == 0) ≡ true
some_read read [] first items is = absurd (cc)
some_read read (x ∷ xs) first items is = grind (arith, nat_tests)
