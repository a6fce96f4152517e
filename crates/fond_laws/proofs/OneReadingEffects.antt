-- Two trees that are alike are read as at most one effect, up to addresses and capacities.
use Rattle.std.proofs.Common.{◌≡◌, ℕ, ◌==◌, ◌&&◌, Bool, true, not, List, [], ◌∷◌, map, length, codes, sym, ap, ◌∙◌}
use Rattle.fond_text.specs.Lists.{each_passes}
use Rattle.fond_tree.specs.Alike.{IsAlike}
use Rattle.fond_tree.specs.declared.tree.Tree.{Tree}
use Rattle.fond_ast.specs.declared.syntax.Effect.{Effect, out-Effect, Nothing, Add, Delete, And', Forall', When', OneOf', Row_of-Effect, end_of-Effect, more_of-Effect}
use Rattle.fond_ast.specs.declared.syntax.Effect.TheBlock.{items-the_row-Effect, items_shown-the_row-Effect-0}
use Rattle.fond_ast.specs.declared.syntax.Effect.TheOpen.{Effect-F}
use Rattle.fond_ast.specs.declared.syntax.Effect.TheViews.{outs-Nothing, outs-Add, outs-Delete, outs-And', outs-Forall', outs-When', outs-OneOf'}
use Rattle.fond_ast.specs.declared.syntax.Effect.TheFolds.{fold_out-Effect, map-Effect}
use Rattle.fond_reader.specs.Bodies.{is_atom, is_condition, effect_step, is_effect}
use Rattle.fond_reader.specs.Forms.{is_form}
use Rattle.fond_reader.specs.Typed.{is_variable_list}
use Rattle.fond_reader.proofs.Through.{first_of_both, second_of_both}
use Rattle.fond_laws.specs.Read.{IsSameRead, AreSameReads}
use Rattle.fond_laws.proofs.OneReadingAlike.{AreAlikeTrees}
use Rattle.fond_laws.proofs.OneReadingConditions.{one_condition}
use Rattle.fond_laws.proofs.OneReadingForms.{form_number, number_alike, number_of_form, number_of_atom, number_of_unit, two_forms, form_once, two_each, once_each}
use Rattle.fond_laws.proofs.OneReadingLeaves.{atom_once}
use Rattle.fond_laws.proofs.OneReadingLists.{variable_list_once}
use Rattle.fond_laws.proofs.OneReadingMoved.{atom_alike, variable_list_alike}

-- an effect that is read, by its outer form
opened : (effect : Effect) (layer : Effect-F Effect) → out-Effect effect ≡ layer → (tree : Tree) → is_effect effect tree ≡ true → effect_step (map-Effect Effect (Tree → Bool) is_effect layer) tree ≡ true
opened effect layer e tree is = sym (ap (λ test. test tree) (fold_out-Effect (Tree → Bool) effect_step effect) ∙ ap (λ form. effect_step (map-Effect Effect (Tree → Bool) is_effect form) tree) e) ∙ is

-- the tests of the members of a row
abbrev reads_of : {m : _} → Row_of-Effect m → List (Tree → Bool)
reads_of row = map is_effect (items-the_row-Effect _ row)

-- a conjunction is read from its members
and_read : (shape : _) (row : Row_of-Effect _) (tree : Tree) → is_effect (And' shape row) tree ≡ true → is_form (codes "and") (reads_of row) tree ≡ true
and_read shape row tree is = sym (ap (λ parts. is_form (codes "and") (map is_effect parts) tree) (items_shown-the_row-Effect-0 shape row)) ∙ opened _ _ (outs-And' shape row) tree is

-- a choice is read from its members
one_of_read : (shape : _) (row : Row_of-Effect _) (tree : Tree) → is_effect (OneOf' shape row) tree ≡ true → is_form (codes "oneof") (reads_of row) tree ≡ true
one_of_read shape row tree is =
    second_of_both (not (length (reads_of row) == 0)) _
    (sym (ap (λ parts. not (length (map is_effect parts) == 0) && is_form (codes "oneof") (map is_effect parts) tree) (items_shown-the_row-Effect-0 shape row)) ∙ opened _ _ (outs-OneOf' shape row) tree is)

-- the number of the operator of an effect
abbrev effect_number : Effect → ℕ
effect_number Nothing = 0
effect_number (Add atom) = 1
effect_number (And' shape parts) = 3
effect_number (Delete atom) = 5
effect_number (Forall' names shape part) = 7
effect_number (When' condition shape part) = 9
effect_number (OneOf' shape parts) = 10

-- a tree that is read as an effect has the number of the operator of the effect
number_is : (effect : Effect) (tree : Tree) → is_effect effect tree ≡ true → form_number tree ≡ effect_number effect
number_is Nothing tree is = number_of_unit tree (opened _ _ outs-Nothing tree is)
number_is (Add atom) tree is = number_of_atom atom tree (opened _ _ (outs-Add atom) tree is)
number_is (Delete atom) tree is = number_of_form (codes "not") (is_atom atom ∷ []) tree (opened _ _ (outs-Delete atom) tree is)
number_is (And' shape parts) tree is = number_of_form (codes "and") _ tree (and_read shape parts tree is)
number_is (Forall' names shape part) tree is = number_of_form (codes "forall") (is_variable_list names ∷ is_effect part ∷ []) tree (opened _ _ (outs-Forall' names shape part) tree is)
number_is (When' condition shape part) tree is = number_of_form (codes "when") (is_condition condition ∷ is_effect part ∷ []) tree (opened _ _ (outs-When' condition shape part) tree is)
number_is (OneOf' shape parts) tree is = number_of_form (codes "oneof") _ tree (one_of_read shape parts tree is)

-- effects that are read from trees that are alike have one operator
one_number : (effect other : Effect) (tree alike : Tree) → IsAlike tree alike → is_effect effect tree ≡ true → is_effect other alike ≡ true → effect_number effect ≡ effect_number other
one_number effect other tree alike like is also = sym (number_is effect tree is) ∙ number_alike tree alike like ∙ number_is other alike also

mutual
  -- effects that are read from trees that are alike are the same
  pub one_effect : (effect other : Effect) (tree alike : Tree) → IsAlike tree alike → is_effect effect tree ≡ true → is_effect other alike ≡ true → IsSameRead effect other
  one_effect Nothing Nothing tree alike like is also = tt
  one_effect (Add atom) (Add read) tree alike like is also =
      once_each is_atom atom_once atom_alike atom read (record { one = tree; two = alike; alike = like; read_one = opened _ _ (outs-Add atom) tree is; read_two = opened _ _ (outs-Add read) alike also })
  one_effect (Delete atom) (Delete read) tree alike like is also =
      let same = form_once is_atom atom_once atom_alike (codes "not") (atom ∷ []) (read ∷ []) tree alike like (opened _ _ (outs-Delete atom) tree is) (opened _ _ (outs-Delete read) alike also) in
      cc
  one_effect (And' shape parts) (And' form others) tree alike like is also =
      let two = two_forms (codes "and") (reads_of parts) (reads_of others) tree alike like (and_read shape parts tree is) (and_read form others alike also) in
      one_row parts others two.after two.next two.alike two.read two.also
  one_effect (OneOf' shape parts) (OneOf' form others) tree alike like is also =
      let two = two_forms (codes "oneof") (reads_of parts) (reads_of others) tree alike like (one_of_read shape parts tree is) (one_of_read form others alike also) in
      one_row parts others two.after two.next two.alike two.read two.also
  one_effect (Forall' names shape part) (Forall' others form other) tree alike like is also =
      let two = two_forms (codes "forall") (is_variable_list names ∷ is_effect part ∷ []) (is_variable_list others ∷ is_effect other ∷ []) tree alike like
      (opened _ _ (outs-Forall' names shape part) tree is) (opened _ _ (outs-Forall' others form other) alike also) in
      let inner = two_each (is_variable_list names) (is_effect part) (is_variable_list others) (is_effect other) two.after two.next two.alike two.read two.also in
      (once_each is_variable_list variable_list_once variable_list_alike names others inner.0, one_effect part other inner.1.one inner.1.two inner.1.alike inner.1.read_one inner.1.read_two)
  one_effect (When' condition shape part) (When' over form other) tree alike like is also =
      let two = two_forms (codes "when") (is_condition condition ∷ is_effect part ∷ []) (is_condition over ∷ is_effect other ∷ []) tree alike like
      (opened _ _ (outs-When' condition shape part) tree is) (opened _ _ (outs-When' over form other) alike also) in
      let inner = two_each (is_condition condition) (is_effect part) (is_condition over) (is_effect other) two.after two.next two.alike two.read two.also in
      (one_condition condition over inner.0.one inner.0.two inner.0.alike inner.0.read_one inner.0.read_two, one_effect part other inner.1.one inner.1.two inner.1.alike inner.1.read_one inner.1.read_two)
  one_effect effect other tree alike like is also =
      let clash : effect_number effect ≡ effect_number other = one_number effect other tree alike like is also in
      absurd (cc)

  -- effects that are read one by one from trees that are alike are the same
  one_row : {m n : _} (row : Row_of-Effect m) (others : Row_of-Effect n) (trees next : List Tree) → AreAlikeTrees trees next → each_passes (reads_of row) trees ≡ true → each_passes (reads_of others) next ≡ true → AreSameReads row others
  one_row end_of-Effect end_of-Effect trees next like is also = tt
  one_row end_of-Effect (more_of-Effect other others) [] [] like is also = absurd (cc)
  one_row end_of-Effect (more_of-Effect other others) [] (u ∷ us) like is also = absurd like
  one_row end_of-Effect (more_of-Effect other others) (t ∷ ts) us like is also = absurd (cc)
  one_row (more_of-Effect part rest) end_of-Effect [] us like is also = absurd (cc)
  one_row (more_of-Effect part rest) end_of-Effect (t ∷ ts) [] like is also = absurd like
  one_row (more_of-Effect part rest) end_of-Effect (t ∷ ts) (u ∷ us) like is also = absurd (cc)
  one_row (more_of-Effect part rest) (more_of-Effect other others) [] us like is also = absurd (cc)
  one_row (more_of-Effect part rest) (more_of-Effect other others) (t ∷ ts) [] like is also = absurd like
  one_row (more_of-Effect part rest) (more_of-Effect other others) (t ∷ ts) (u ∷ us) like is also =
      (one_effect part other t u like.0 (first_of_both _ _ is) (first_of_both _ _ also), one_row rest others ts us like.1 (second_of_both (is_effect part t) _ is) (second_of_both (is_effect other u) _ also))
