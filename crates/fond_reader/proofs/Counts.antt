-- As many declarations as a tree has tokens, at most.
use Rattle.std.proofs.Common.{◌≡◌, ℕ, ◌+◌, ◌&&◌, ◌==◌, ◌≤◌, Bool, true, false, not, List, [], ◌∷◌, ◌++◌, length, map, Option, Some, None, codes, refl, arith, if◌then◌else◌}
use Rattle.std.specs.List.{flat_map, list_all, AllZip}
use Rattle.std.proofs.lemmas.Bool.Decides.{nat_tests}
use Rattle.std.specs.Str.{bytes_eq}
use Rattle.fond_text.specs.Lists.{each_passes}
use Rattle.fond_text.specs.declared.place.Place.{Place}
use Rattle.fond_tree.specs.declared.tree.Tree.{Tree}
use Rattle.fond_tree.specs.Trees.{members_of}
use Rattle.fond_ast.specs.Read.{has_one_kind}
use Rattle.fond_ast.specs.declared.names.Kind.{Kind}
use Rattle.fond_ast.specs.declared.names.TypedName.{TypedName}
use Rattle.fond_tree.specs.Parts.{is_dash}
use Rattle.fond_tree.specs.Words.{has_head, is_name}
use Rattle.fond_reader.specs.Files.{headed, content, contents, but_first}
use Rattle.fond_reader.specs.Forms.{is_place}
use Rattle.fond_reader.specs.Sorts.{is_read_from, are_read_from}
use Rattle.fond_reader.specs.Typed.{TypedLeaf, typed_leaves, next_type, is_kind, is_one_kind, is_object_alone, have_type, is_declared_by, are_names, is_variable_list}
use Rattle.fond_reader.specs.declared.typed.Sort.{Sort}
use Rattle.fond_reader.specs.declared.typed.Sort.TheVariants.{Variables}
use Rattle.fond_reader.proofs.Shapes.{as_many_read, variables_are}
use Rattle.fond_reader.proofs.Through.{first_of_both, second_of_both, both_hold}
use Rattle.fond_reader.proofs.Weights.{weight, weights, weights_first, weights_none, weight_some, after_lighter, node_weight}

-- there are no more trees than tokens
pub items_weigh : (trees : List Tree) → length trees ≤ weights trees
items_weigh [] = omega arith
items_weigh (t ∷ ts) = omega (arith, items_weigh ts, weight_some t, weights_first t ts)

weights_append : (trees more : List Tree) → weights (trees ++ more) ≡ weights trees + weights more
weights_append [] more = omega (arith, weights_none)
weights_append (t ∷ ts) more = omega (arith, weights_append ts more, weights_first t (ts ++ more), weights_first t ts)

-- there are no more leaves in a typed list than trees
leaves_counted : (untyped : Bool) (trees : List Tree) → length (typed_leaves untyped trees) ≤ length trees
leaves_counted untyped [] = omega arith
leaves_counted untyped (t ∷ []) = omega arith
leaves_counted untyped (t ∷ u ∷ us) = from (untyped && is_dash t) (leaves_counted false us) (leaves_counted (not (is_dash t)) (u ∷ us)) where
  from : (b : Bool) → length (typed_leaves false us) ≤ length us → length (typed_leaves (not (is_dash t)) (u ∷ us)) ≤ length (u ∷ us) →
      length (if b then typed_leaves false us else record { leaf = t; type = next_type (u ∷ us) } ∷ typed_leaves (not (is_dash t)) (u ∷ us)) ≤ length (t ∷ u ∷ us)
  from true after next = omega arith
  from false after next = omega arith

-- declarations that are read from a typed list
pub typed_counted : (sort : Sort) (names : List TypedName) (trees : List Tree) → are_read_from sort names (typed_leaves false trees) ≡ true → length names ≤ weights trees
typed_counted sort names trees read =
    omega (arith, as_many_read (is_read_from sort) names (typed_leaves false trees) read, leaves_counted false trees, items_weigh trees)

pub list_counted : (names : List TypedName) (tree : Tree) → is_variable_list names tree ≡ true → length names + 2 ≤ weight tree
list_counted names tree read =
    let there = variables_are tree names read in
    omega (arith, typed_counted Variables names there.0 there.2, node_weight tree there.0 there.1)

-- declarations that are read from trees one by one
pub each_counted : {X : Type 0} (read : X → Tree → Bool) (xs : List X) (trees : List Tree) → each_passes (map read xs) trees ≡ true → length xs ≤ weights trees
each_counted read xs trees is = omega (arith, as_many_read read xs trees is, items_weigh trees)

pub zip_counted : {X : Type 0} (reads : Tree → X → Type 0) (trees : List Tree) (xs : List X) → AllZip reads trees xs → length xs ≡ length trees
zip_counted reads [] [] all = refl
zip_counted reads [] (x ∷ xs) all = absurd all
zip_counted reads (t ∷ ts) [] all = absurd all
zip_counted reads (t ∷ ts) (x ∷ xs) all = let rest = zip_counted reads ts xs all.1 in omega arith

module _ (word : List ℕ) where
  pub headed_weigh : (sections : List Tree) → weights (headed word sections) ≤ weights sections
  headed_weigh [] = omega (arith, weights_none)
  headed_weigh (t ∷ ts) = from (has_head word t) (headed_weigh ts) where
    from : (b : Bool) → weights (headed word ts) ≤ weights ts → weights (if b then t ∷ headed word ts else headed word ts) ≤ weights (t ∷ ts)
    from true rest = omega (arith, weights_first t (headed word ts), weights_first t ts)
    from false rest = omega (arith, weights_first t ts)

  content_weighs : (tree : Tree) → weights (content tree) ≤ weight tree
  content_weighs tree = from (members_of tree) refl where
    from : (members : Option (List Tree)) → members_of tree ≡ members → weights (but_first members) ≤ weight tree
    from None whole = omega (arith, weights_none)
    from (Some []) whole = omega (arith, weights_none)
    from (Some (head ∷ after)) whole = omega (arith, after_lighter tree head after whole)

  all_content_weighs : (sections : List Tree) → weights (flat_map content sections) ≤ weights sections
  all_content_weighs [] = omega (arith, weights_none)
  all_content_weighs (t ∷ ts) = omega (arith, weights_append (content t) (flat_map content ts), content_weighs t, all_content_weighs ts, weights_first t ts)

  pub contents_weigh : (sections : List Tree) → weights (contents word sections) ≤ weights sections
  contents_weigh sections = omega (arith, all_content_weighs (headed word sections), headed_weigh sections)

-- the sections of a file are lighter than the file
pub sections_weigh : (tree define header : Tree) (sections : List Tree) → members_of tree ≡ Some (define ∷ header ∷ sections) → weights sections ≤ weight tree
sections_weigh tree define header sections whole = omega (arith, after_lighter tree define (header ∷ sections) whole, weights_first header sections)

-- ---- one type

one_if_read : (kinds : List Kind) (tree : Tree) → is_one_kind kinds tree ≡ true → (length kinds == 1) ≡ true
one_if_read kinds tree is = let count = as_many_read is_kind kinds (tree ∷ []) is in grind (arith, nat_tests)

one_if_unwritten : (place : Place) (kinds : List Kind) → is_object_alone place kinds ≡ true → (length kinds == 1) ≡ true
one_if_unwritten place [] is = cc
one_if_unwritten place (kind ∷ kinds) is =
    let none : (length kinds == 0) ≡ true = second_of_both (bytes_eq kind.name (codes "object") && is_place kind.place place) _ is in
    grind (arith, nat_tests)

one_kind : (place : Place) (kinds : List Kind) (type : Option Tree) → have_type is_one_kind place kinds type ≡ true → (length kinds == 1) ≡ true
one_kind place kinds None is = one_if_unwritten place kinds is
one_kind place kinds (Some tree) is = one_if_read kinds tree is

each_one_kind : (names : List TypedName) (leaves : List TypedLeaf) → each_passes (map (is_declared_by is_name is_one_kind) names) leaves ≡ true → list_all has_one_kind names ≡ true
each_one_kind [] leaves is = refl
each_one_kind (n ∷ ns) [] is = cc
each_one_kind (n ∷ ns) (l ∷ ls) is =
    both_hold _ _ (one_kind n.place n.kinds l.type (second_of_both _ _ (first_of_both (is_declared_by is_name is_one_kind n l) _ is))) (each_one_kind ns ls (second_of_both (is_declared_by is_name is_one_kind n l) _ is))

-- each declared name has one type
pub names_of_one_kind : (names : List TypedName) (trees : List Tree) → are_names names trees ≡ true → list_all has_one_kind names ≡ true
names_of_one_kind names trees is = each_one_kind names (typed_leaves false trees) is
