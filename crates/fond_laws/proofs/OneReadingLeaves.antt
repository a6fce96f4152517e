-- Names, terms, atoms and typed lists: at most one is read from a tree.
use Rattle.std.proofs.Common.{◌≡◌, ℕ, ◌&&◌, Bool, true, false, List, [], ◌∷◌, map, Option, Some, None, refl, sym, ap, ◌∙◌, arith}
use Rattle.std.proofs.lemmas.Bool.Decides.{nat_tests}
use Rattle.fond_text.specs.Bools.{is_same}
use Rattle.fond_text.specs.Lists.{each_passes}
use Rattle.fond_text.specs.declared.place.Place.{Place}
use Rattle.fond_tree.specs.declared.tree.Tree.{Tree}
use Rattle.fond_tree.specs.Trees.{members_of, leaf_of, place_of}
use Rattle.fond_tree.specs.Roles.{is_term as is_term_leaf}
use Rattle.fond_tree.specs.Words.{is_word, is_name, is_variable}
use Rattle.fond_tree.proofs.Again.{word_is}
use Rattle.fond_reader.specs.Bodies.{is_term, are_of_atom, is_atom}
use Rattle.fond_reader.specs.Forms.{is_place, is_sorted, is_named}
use Rattle.fond_reader.specs.Typed.{is_kind}
use Rattle.fond_reader.proofs.Through.{first_of_both, second_of_both}

-- what is read from an item is one
abbrev pub IsReadOnce : {X T : Type 0} → (X → T → Bool) → Type 0
IsReadOnce {X} {T} read = (x y : X) (item : T) → read x item ≡ true → read y item ≡ true → x ≡ y

-- so what is read from items one by one is one list
pub lists_once : {X T : Type 0} (read : X → T → Bool) → IsReadOnce read → (xs ys : List X) (items : List T) → each_passes (map read xs) items ≡ true → each_passes (map read ys) items ≡ true → xs ≡ ys
lists_once read once [] [] items is also = refl
lists_once read once [] (y ∷ ys) [] is also = absurd (cc)
lists_once read once [] (y ∷ ys) (t ∷ ts) is also = absurd (cc)
lists_once read once (x ∷ xs) ys [] is also = absurd (cc)
lists_once read once (x ∷ xs) [] (t ∷ ts) is also = absurd (cc)
lists_once read once (x ∷ xs) (y ∷ ys) (t ∷ ts) is also =
    let first = once x y t (first_of_both _ _ is) (first_of_both _ _ also) in
    let rest = lists_once read once xs ys ts (second_of_both (read x t) _ is) (second_of_both (read y t) _ also) in
    ap (λ z. z ∷ xs) first ∙ ap (λ zs. y ∷ zs) rest

-- places that pass the test of sameness are the same
pub place_is : (place other : Place) → is_place place other ≡ true → place ≡ other
place_is place other is =
    let line : place.line ≡ other.line = grind (arith, nat_tests) in
    let column : place.column ≡ other.column = grind (arith, nat_tests) in
    λ i. record { line = line i; column = column i }

-- truth values that pass the test of sameness are the same
same_is : (one other : Bool) → is_same one other ≡ true → one ≡ other
same_is true true is = refl
same_is true false is = cc
same_is false true is = cc
same_is false false is = refl

-- the place and the bytes of a leaf of a sort
pub sorted_is : (sort : List ℕ → Bool) (place : Place) (name : List ℕ) (tree : Tree) → is_sorted sort place name tree ≡ true → (place ≡ place_of tree) × (leaf_of tree ≡ Some name)
sorted_is sort place name tree is =
    let both = first_of_both (is_word name (leaf_of tree) && is_place place (place_of tree)) _ is in
    (place_is place (place_of tree) (second_of_both (is_word name (leaf_of tree)) _ both), word_is name (leaf_of tree) (first_of_both _ _ both))

-- a leaf has one place and one name, in whatever sorts
pub sorted_once : (sort next : List ℕ → Bool) (place at : Place) (name other : List ℕ) (tree : Tree) → is_sorted sort place name tree ≡ true → is_sorted next at other tree ≡ true → (place ≡ at) × (name ≡ other)
sorted_once sort next place at name other tree is also =
    let one = sorted_is sort place name tree is in
    let two = sorted_is next at other tree also in
    (one.0 ∙ sym two.0, (let same = sym one.1 ∙ two.1 in cc))

-- a tree is read as at most one term
pub term_once : IsReadOnce is_term
term_once term other tree is also =
    let leaf = sorted_once is_term_leaf is_term_leaf term.place other.place term.name other.name tree (first_of_both _ _ is) (first_of_both _ _ also) in
    let one = same_is term.variable (is_variable term.name) (second_of_both (is_sorted is_term_leaf term.place term.name tree) _ is) in
    let two = same_is other.variable (is_variable other.name) (second_of_both (is_sorted is_term_leaf other.place other.name tree) _ also) in
    let variable : term.variable ≡ other.variable = one ∙ ap is_variable leaf.1 ∙ sym two in
    λ i. record { place = leaf.0 i; name = leaf.1 i; variable = variable i }

-- a tree is read as at most one atom
pub atom_once : IsReadOnce is_atom
atom_once atom other tree is also =
    from (members_of tree) (second_of_both (is_place atom.place (place_of tree)) _ is) (second_of_both (is_place other.place (place_of tree)) _ also)
  where
    place : atom.place ≡ other.place
    place = place_is atom.place (place_of tree) (first_of_both _ _ is) ∙ sym (place_is other.place (place_of tree) (first_of_both _ _ also))

    from : (members : Option (List Tree)) → are_of_atom atom members ≡ true → are_of_atom other members ≡ true → atom ≡ other
    from None one two = absurd (cc)
    from (Some []) one two = absurd (cc)
    from (Some (head ∷ after)) one two =
        let leaf = sorted_once is_name is_name atom.head other.head atom.name other.name head (first_of_both _ _ one) (first_of_both _ _ two) in
        let terms = lists_once is_term term_once atom.terms other.terms after (second_of_both (is_named atom.head atom.name head) _ one) (second_of_both (is_named other.head other.name head) _ two) in
        λ i. record { place = place i; head = leaf.0 i; name = leaf.1 i; terms = terms i }

-- a tree is read as at most one type
pub kind_once : IsReadOnce is_kind
kind_once kind other tree is also =
    let leaf = sorted_once is_name is_name kind.place other.place kind.name other.name tree is also in
    λ i. record { place = leaf.0 i; name = leaf.1 i }
