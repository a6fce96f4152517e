-- Two trees that are alike are read as at most one condition, up to addresses and capacities.
use Rattle.std.proofs.Common.{◌≡◌, ℕ, Bool, true, List, [], ◌∷◌, map, codes, sym, ap, ◌∙◌}
use Rattle.fond_text.specs.Lists.{each_passes}
use Rattle.fond_tree.specs.Alike.{IsAlike}
use Rattle.fond_tree.specs.declared.tree.Tree.{Tree}
use Rattle.fond_ast.specs.declared.syntax.Cond.{Cond, out-Cond, Truth, Holds, Equal, And', Or', Not', Imply', Forall', Exists', Row_of-Cond, end_of-Cond, more_of-Cond}
use Rattle.fond_ast.specs.declared.syntax.Cond.TheBlock.{items-the_row-Cond, items_shown-the_row-Cond-0}
use Rattle.fond_ast.specs.declared.syntax.Cond.TheOpen.{Cond-F}
use Rattle.fond_ast.specs.declared.syntax.Cond.TheViews.{outs-Truth, outs-Holds, outs-Equal, outs-And', outs-Or', outs-Not', outs-Imply', outs-Forall', outs-Exists'}
use Rattle.fond_ast.specs.declared.syntax.Cond.TheFolds.{fold_out-Cond, map-Cond}
use Rattle.fond_reader.specs.Bodies.{is_term, is_atom, condition_step, is_condition}
use Rattle.fond_reader.specs.Forms.{is_form}
use Rattle.fond_reader.specs.Typed.{is_variable_list}
use Rattle.fond_reader.proofs.Through.{first_of_both, second_of_both}
use Rattle.fond_laws.specs.Read.{IsSameCond, AreSameConds}
use Rattle.fond_laws.proofs.OneReadingAlike.{AreAlikeTrees}
use Rattle.fond_laws.proofs.OneReadingForms.{form_number, number_alike, number_of_form, number_of_atom, number_of_unit, two_forms, form_once, one_each, two_each, once_each}
use Rattle.fond_laws.proofs.OneReadingLeaves.{term_once, atom_once}
use Rattle.fond_laws.proofs.OneReadingLists.{variable_list_once}
use Rattle.fond_laws.proofs.OneReadingMoved.{term_alike, atom_alike, variable_list_alike}

-- a condition that is read, by its outer form
opened : (condition : Cond) (layer : Cond-F Cond) → out-Cond condition ≡ layer → (tree : Tree) → is_condition condition tree ≡ true → condition_step (map-Cond Cond (Tree → Bool) is_condition layer) tree ≡ true
opened condition layer e tree is = sym (ap (λ test. test tree) (fold_out-Cond (Tree → Bool) condition_step condition) ∙ ap (λ form. condition_step (map-Cond Cond (Tree → Bool) is_condition form) tree) e) ∙ is

-- the tests of the members of a row
abbrev reads_of : {m : _} → Row_of-Cond m → List (Tree → Bool)
reads_of row = map is_condition (items-the_row-Cond _ row)

-- a conjunction is read from its members
and_read : (shape : _) (row : Row_of-Cond _) (tree : Tree) → is_condition (And' shape row) tree ≡ true → is_form (codes "and") (reads_of row) tree ≡ true
and_read shape row tree is = sym (ap (λ parts. is_form (codes "and") (map is_condition parts) tree) (items_shown-the_row-Cond-0 shape row)) ∙ opened _ _ (outs-And' shape row) tree is

-- a disjunction is read from its members
or_read : (shape : _) (row : Row_of-Cond _) (tree : Tree) → is_condition (Or' shape row) tree ≡ true → is_form (codes "or") (reads_of row) tree ≡ true
or_read shape row tree is = sym (ap (λ parts. is_form (codes "or") (map is_condition parts) tree) (items_shown-the_row-Cond-0 shape row)) ∙ opened _ _ (outs-Or' shape row) tree is

-- the number of the operator of a condition
abbrev condition_number : Cond → ℕ
condition_number Truth = 0
condition_number (Holds atom) = 1
condition_number (Equal one two) = 2
condition_number (And' shape parts) = 3
condition_number (Or' shape parts) = 4
condition_number (Not' shape part) = 5
condition_number (Imply' shape part next over) = 6
condition_number (Forall' names shape part) = 7
condition_number (Exists' names shape part) = 8

-- a tree that is read as a condition has the number of the operator of the condition
number_is : (condition : Cond) (tree : Tree) → is_condition condition tree ≡ true → form_number tree ≡ condition_number condition
number_is Truth tree is = number_of_unit tree (opened _ _ outs-Truth tree is)
number_is (Holds atom) tree is = number_of_atom atom tree (opened _ _ (outs-Holds atom) tree is)
number_is (Equal one two) tree is = number_of_form (codes "=") (is_term one ∷ is_term two ∷ []) tree (opened _ _ (outs-Equal one two) tree is)
number_is (And' shape parts) tree is = number_of_form (codes "and") _ tree (and_read shape parts tree is)
number_is (Or' shape parts) tree is = number_of_form (codes "or") _ tree (or_read shape parts tree is)
number_is (Not' shape part) tree is = number_of_form (codes "not") (is_condition part ∷ []) tree (opened _ _ (outs-Not' shape part) tree is)
number_is (Imply' shape part next over) tree is = number_of_form (codes "imply") (is_condition part ∷ is_condition over ∷ []) tree (opened _ _ (outs-Imply' shape part next over) tree is)
number_is (Forall' names shape part) tree is = number_of_form (codes "forall") (is_variable_list names ∷ is_condition part ∷ []) tree (opened _ _ (outs-Forall' names shape part) tree is)
number_is (Exists' names shape part) tree is = number_of_form (codes "exists") (is_variable_list names ∷ is_condition part ∷ []) tree (opened _ _ (outs-Exists' names shape part) tree is)

-- conditions that are read from trees that are alike have one operator
one_number : (condition other : Cond) (tree alike : Tree) → IsAlike tree alike → is_condition condition tree ≡ true → is_condition other alike ≡ true → condition_number condition ≡ condition_number other
one_number condition other tree alike like is also = sym (number_is condition tree is) ∙ number_alike tree alike like ∙ number_is other alike also

mutual
  -- conditions that are read from trees that are alike are the same
  pub one_condition : (condition other : Cond) (tree alike : Tree) → IsAlike tree alike → is_condition condition tree ≡ true → is_condition other alike ≡ true → IsSameCond condition other
  one_condition Truth Truth tree alike like is also = tt
  one_condition (Holds atom) (Holds read) tree alike like is also =
      once_each is_atom atom_once atom_alike atom read (record { one = tree; two = alike; alike = like; read_one = opened _ _ (outs-Holds atom) tree is; read_two = opened _ _ (outs-Holds read) alike also })
  one_condition (Equal one two) (Equal first second) tree alike like is also =
      let same = form_once is_term term_once term_alike (codes "=") (one ∷ two ∷ []) (first ∷ second ∷ []) tree alike like (opened _ _ (outs-Equal one two) tree is) (opened _ _ (outs-Equal first second) alike also) in
      (cc, cc)
  one_condition (And' shape parts) (And' form others) tree alike like is also =
      let two = two_forms (codes "and") (reads_of parts) (reads_of others) tree alike like (and_read shape parts tree is) (and_read form others alike also) in
      one_row parts others two.after two.next two.alike two.read two.also
  one_condition (Or' shape parts) (Or' form others) tree alike like is also =
      let two = two_forms (codes "or") (reads_of parts) (reads_of others) tree alike like (or_read shape parts tree is) (or_read form others alike also) in
      one_row parts others two.after two.next two.alike two.read two.also
  one_condition (Not' shape part) (Not' form other) tree alike like is also =
      let two = two_forms (codes "not") (is_condition part ∷ []) (is_condition other ∷ []) tree alike like (opened _ _ (outs-Not' shape part) tree is) (opened _ _ (outs-Not' form other) alike also) in
      let inner = one_each (is_condition part) (is_condition other) two.after two.next two.alike two.read two.also in
      one_condition part other inner.one inner.two inner.alike inner.read_one inner.read_two
  one_condition (Imply' shape part next over) (Imply' form other after more) tree alike like is also =
      let two = two_forms (codes "imply") (is_condition part ∷ is_condition over ∷ []) (is_condition other ∷ is_condition more ∷ []) tree alike like
      (opened _ _ (outs-Imply' shape part next over) tree is) (opened _ _ (outs-Imply' form other after more) alike also) in
      let inner = two_each (is_condition part) (is_condition over) (is_condition other) (is_condition more) two.after two.next two.alike two.read two.also in
      (one_condition part other inner.0.one inner.0.two inner.0.alike inner.0.read_one inner.0.read_two, one_condition over more inner.1.one inner.1.two inner.1.alike inner.1.read_one inner.1.read_two)
  one_condition (Forall' names shape part) (Forall' others form other) tree alike like is also =
      let two = two_forms (codes "forall") (is_variable_list names ∷ is_condition part ∷ []) (is_variable_list others ∷ is_condition other ∷ []) tree alike like
      (opened _ _ (outs-Forall' names shape part) tree is) (opened _ _ (outs-Forall' others form other) alike also) in
      let inner = two_each (is_variable_list names) (is_condition part) (is_variable_list others) (is_condition other) two.after two.next two.alike two.read two.also in
      (once_each is_variable_list variable_list_once variable_list_alike names others inner.0, one_condition part other inner.1.one inner.1.two inner.1.alike inner.1.read_one inner.1.read_two)
  one_condition (Exists' names shape part) (Exists' others form other) tree alike like is also =
      let two = two_forms (codes "exists") (is_variable_list names ∷ is_condition part ∷ []) (is_variable_list others ∷ is_condition other ∷ []) tree alike like
      (opened _ _ (outs-Exists' names shape part) tree is) (opened _ _ (outs-Exists' others form other) alike also) in
      let inner = two_each (is_variable_list names) (is_condition part) (is_variable_list others) (is_condition other) two.after two.next two.alike two.read two.also in
      (once_each is_variable_list variable_list_once variable_list_alike names others inner.0, one_condition part other inner.1.one inner.1.two inner.1.alike inner.1.read_one inner.1.read_two)
  one_condition condition other tree alike like is also =
      let clash : condition_number condition ≡ condition_number other = one_number condition other tree alike like is also in
      absurd (cc)

  -- conditions that are read one by one from trees that are alike are the same
  one_row : {m n : _} (row : Row_of-Cond m) (others : Row_of-Cond n) (trees next : List Tree) → AreAlikeTrees trees next → each_passes (reads_of row) trees ≡ true → each_passes (reads_of others) next ≡ true → AreSameConds row others
  one_row end_of-Cond end_of-Cond trees next like is also = tt
  one_row end_of-Cond (more_of-Cond other others) [] [] like is also = absurd (cc)
  one_row end_of-Cond (more_of-Cond other others) [] (u ∷ us) like is also = absurd like
  one_row end_of-Cond (more_of-Cond other others) (t ∷ ts) us like is also = absurd (cc)
  one_row (more_of-Cond part rest) end_of-Cond [] us like is also = absurd (cc)
  one_row (more_of-Cond part rest) end_of-Cond (t ∷ ts) [] like is also = absurd like
  one_row (more_of-Cond part rest) end_of-Cond (t ∷ ts) (u ∷ us) like is also = absurd (cc)
  one_row (more_of-Cond part rest) (more_of-Cond other others) [] us like is also = absurd (cc)
  one_row (more_of-Cond part rest) (more_of-Cond other others) (t ∷ ts) [] like is also = absurd like
  one_row (more_of-Cond part rest) (more_of-Cond other others) (t ∷ ts) (u ∷ us) like is also =
      (one_condition part other t u like.0 (first_of_both _ _ is) (first_of_both _ _ also), one_row rest others ts us like.1 (second_of_both (is_condition part t) _ is) (second_of_both (is_condition other u) _ also))
