-- The forms of trees that are alike: their operators, and their operands one by one.
use Rattle.std.proofs.Common.{◌≡◌, ℕ, Bool, true, List, [], ◌∷◌, map, Option, Some, None, codes, refl, ap, ◌∙◌, subst, if◌then◌else◌}
use Rattle.std.specs.Str.{bytes_eq}
use Rattle.fond_text.specs.Lists.{each_passes}
use Rattle.fond_tree.specs.Alike.{IsAlike}
use Rattle.fond_tree.specs.declared.tree.Tree.{Tree}
use Rattle.fond_tree.specs.Trees.{members_of, leaf_of}
use Rattle.fond_ast.specs.declared.names.ReadAtom.{ReadAtom}
use Rattle.fond_tree.specs.Words.{is_name}
use Rattle.fond_reader.specs.Bodies.{is_atom}
use Rattle.fond_reader.specs.Forms.{is_unit, is_form}
use Rattle.fond_reader.proofs.ReadLeaves.{atom_there}
use Rattle.fond_reader.proofs.Shapes.{form_there, unit_there, one_operand, two_operands}
use Rattle.fond_laws.proofs.OneReadingAlike.{AreAlikeTrees, AreAlikeMembers, leaf_alike, members_alike, members_there}
use Rattle.fond_laws.proofs.OneReadingLeaves.{IsReadOnce, lists_once}
use Rattle.fond_laws.proofs.OneReadingMoved.{Respects, passes_alike}

-- a number for each operator, with 1 for each name and 11 for each other word
abbrev pub word_number : List ℕ → ℕ
word_number word =
    if is_name word then 1
    else if bytes_eq word (codes "=") then 2
    else if bytes_eq word (codes "and") then 3
    else if bytes_eq word (codes "or") then 4
    else if bytes_eq word (codes "not") then 5
    else if bytes_eq word (codes "imply") then 6
    else if bytes_eq word (codes "forall") then 7
    else if bytes_eq word (codes "exists") then 8
    else if bytes_eq word (codes "when") then 9
    else if bytes_eq word (codes "oneof") then 10
    else 11

-- the number of a head, and 11 if it is no leaf
abbrev leaf_number : Option (List ℕ) → ℕ
leaf_number None = 11
leaf_number (Some word) = word_number word

-- the number of the head of members, 0 of no members, and 11 of a leaf
abbrev members_number : Option (List Tree) → ℕ
members_number None = 11
members_number (Some []) = 0
members_number (Some (head ∷ after)) = leaf_number (leaf_of head)

-- the number of the operator of a tree, and 0 of `()`
abbrev pub form_number : Tree → ℕ
form_number tree = members_number (members_of tree)

-- trees that are alike have one operator
pub number_alike : (tree other : Tree) → IsAlike tree other → form_number tree ≡ form_number other
number_alike tree other alike = from (members_of tree) (members_of other) (members_alike tree other alike) where
  from : (members others : Option (List Tree)) → AreAlikeMembers members others → members_number members ≡ members_number others
  from None None are = refl
  from None (Some others) are = absurd are
  from (Some members) None are = absurd are
  from (Some []) (Some []) are = refl
  from (Some []) (Some (t ∷ ts)) are = absurd are
  from (Some (t ∷ ts)) (Some []) are = absurd are
  from (Some (t ∷ ts)) (Some (u ∷ us)) are = ap leaf_number (leaf_alike t u are.0)

-- a form has the number of its operator
pub number_of_form : (word : List ℕ) (reads : List (Tree → Bool)) (tree : Tree) → is_form word reads tree ≡ true → form_number tree ≡ word_number word
number_of_form word reads tree is =
    let form = form_there word reads tree is in
    ap members_number form.has.whole ∙ ap leaf_number form.has.leaf

-- an atom has the number of a name
pub number_of_atom : (atom : ReadAtom) (tree : Tree) → is_atom atom tree ≡ true → form_number tree ≡ 1
number_of_atom atom tree is =
    let node = atom_there atom tree is in
    ap members_number node.has.whole ∙ ap leaf_number node.has.leaf ∙ named node.name node.named
  where
    named : (word : List ℕ) → is_name word ≡ true → word_number word ≡ 1
    named word is = rw is refl

-- `()` has the number 0
pub number_of_unit : (tree : Tree) → is_unit tree ≡ true → form_number tree ≡ 0
number_of_unit tree is = ap members_number (unit_there tree is)

-- the operands of one operator in two trees, alike one by one
pub record TwoForms (reads others : List (Tree → Bool)) : Type 0 where
  pub after : List Tree
  pub next : List Tree
  pub alike : AreAlikeTrees after next
  pub read : each_passes reads after ≡ true
  pub also : each_passes others next ≡ true

-- two trees that are alike and of one operator have operands that are alike
pub two_forms : (word : List ℕ) (reads others : List (Tree → Bool)) (tree other : Tree) → IsAlike tree other → is_form word reads tree ≡ true → is_form word others other ≡ true → TwoForms reads others
two_forms word reads others tree other alike is also =
    let one = form_there word reads tree is in
    let two = form_there word others other also in
    record {
      after = one.after;
      next = two.after;
      alike = (members_there tree other (one.has.head ∷ one.after) (two.has.head ∷ two.after) alike one.has.whole two.has.whole).1;
      read = one.read;
      also = two.read;
    }

-- operands that are each read in at most one way are read as one list
pub form_once : {X : Type 0} (read : X → Tree → Bool) → IsReadOnce read → ((x : X) → Respects (read x)) → (word : List ℕ) (xs ys : List X) (tree other : Tree) → IsAlike tree other → is_form word (map read xs) tree ≡ true → is_form word (map read ys) other ≡ true → xs ≡ ys
form_once read once same word xs ys tree other alike is also =
    let two = two_forms word (map read xs) (map read ys) tree other alike is also in
    lists_once read once xs ys two.after two.read (passes_alike IsAlike read same ys two.after two.next two.alike ∙ two.also)

-- two trees that are alike, and what is read from each
pub record TwoTrees (read other : Tree → Bool) : Type 0 where
  pub one : Tree
  pub two : Tree
  pub alike : IsAlike one two
  pub read_one : read one ≡ true
  pub read_two : other two ≡ true

-- trees that are alike one by one, by other names
alike_along : (trees next others more : List Tree) → trees ≡ next → others ≡ more → AreAlikeTrees trees others → AreAlikeTrees next more
alike_along trees next others more here there are = subst (λ ts. AreAlikeTrees next ts) there (subst (λ ts. AreAlikeTrees ts others) here are)

-- the one operand of each of two lists
pub one_each : (read other : Tree → Bool) (trees others : List Tree) → AreAlikeTrees trees others → each_passes (read ∷ []) trees ≡ true → each_passes (other ∷ []) others ≡ true → TwoTrees read other
one_each read other trees others are is also =
    let one = one_operand read trees is in
    let two = one_operand other others also in
    let zipped : AreAlikeTrees (one.0 ∷ []) (two.0 ∷ []) = alike_along trees (one.0 ∷ []) others (two.0 ∷ []) one.1 two.1 are in
    record { one = one.0; two = two.0; alike = zipped.0; read_one = one.2; read_two = two.2 }

-- the two operands of each of two lists
pub two_each : (read other next more : Tree → Bool) (trees others : List Tree) → AreAlikeTrees trees others → each_passes (read ∷ other ∷ []) trees ≡ true → each_passes (next ∷ more ∷ []) others ≡ true → TwoTrees read next × TwoTrees other more
two_each read other next more trees others are is also =
    let one = two_operands read other trees is in
    let two = two_operands next more others also in
    let zipped : AreAlikeTrees (one.0 ∷ one.1 ∷ []) (two.0 ∷ two.1 ∷ []) = alike_along trees (one.0 ∷ one.1 ∷ []) others (two.0 ∷ two.1 ∷ []) one.2 two.2 are in
    (record { one = one.0; two = two.0; alike = zipped.0; read_one = one.3; read_two = two.3 }, record { one = one.1; two = two.1; alike = zipped.1.0; read_one = one.4; read_two = two.4 })

-- what is read from a tree in at most one way is the same from two trees that are alike
pub once_each : {X : Type 0} (read : X → Tree → Bool) → IsReadOnce read → ((x : X) → Respects (read x)) → (x y : X) → TwoTrees (read x) (read y) → x ≡ y
once_each read once same x y two = once x y two.one two.read_one (same y two.one two.two two.alike ∙ two.read_two)
