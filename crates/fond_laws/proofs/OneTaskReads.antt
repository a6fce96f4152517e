-- A condition over numbers that is a written one has its form, and its parts are those of the written one.
use Rattle.std.proofs.Common.{◌≡◌, ℕ, ◌∙◌, Bool, true, List, ◌∷◌, map, refl, sym, ap, arith}
use Rattle.std.specs.Prelude.{⊤}
use Rattle.fond_text.specs.Lists.{each_passes}
use Rattle.fond_ast.specs.declared.syntax.Cond.{Cond, out-Cond, Truth, Holds, Equal, And', Or', Not', Imply', Forall', Exists', Row_of-Cond, end_of-Cond, more_of-Cond, items-the_row-Cond, items_shown-the_row-Cond-0}
use Rattle.fond_ast.specs.declared.syntax.Cond.TheViews as written_view
use Rattle.fond_ast.specs.declared.form.LCond.TheViews as numbered_view
use Rattle.fond_ast.specs.declared.syntax.Cond.TheOpen as written
use Rattle.fond_ast.specs.declared.syntax.Cond.TheFolds.{fold_out-Cond, map-Cond}
use Rattle.fond_ast.specs.declared.form.LCond.{LCond, out-LCond, Row_of-LCond, end_of-LCond, more_of-LCond, items-the_row-LCond, items_shown-the_row-LCond-0}
use Rattle.fond_ast.specs.declared.form.LCond as form
use Rattle.fond_ast.specs.declared.form.LCond.TheOpen as numbered
use Rattle.fond_types.specs.Resolves.{Meanings, is_term, is_atom, are_ranges, is_condition, condition_step}
use Rattle.fond_names.specs.Sites.{Scope}
use Rattle.fond_names.proofs.Members.{and_parts}

module _ (meanings : Meanings) where
  -- a condition over numbers has the form of a written one, and its parts are those of the parts
  abbrev mutual
    pub Reads : Cond → Scope → LCond → Type 0
    Reads Truth around form.Truth = ⊤
    Reads (Holds atom) around (form.Holds number) = is_atom meanings around atom number ≡ true
    Reads (Equal term other) around (form.Equal number next) = (is_term meanings around term number ≡ true) × (is_term meanings around other next ≡ true)
    Reads (And' shape parts) around (form.And' over numbers) = ReadsEach parts around numbers
    Reads (Or' shape parts) around (form.Or' over numbers) = ReadsEach parts around numbers
    Reads (Not' shape part) around (form.Not' over number) = Reads part around number
    Reads (Imply' shape part after other) around (form.Imply' over number then next) = Reads part around number × Reads other around next
    Reads (Forall' names shape part) around (form.Forall' ranges over number) = (are_ranges meanings names ranges ≡ true) × Reads part (names ∷ around) number
    Reads (Exists' names shape part) around (form.Exists' ranges over number) = (are_ranges meanings names ranges ≡ true) × Reads part (names ∷ around) number
    Reads condition around number = ⊥

    -- the members of rows are those of each other, one by one
    pub ReadsEach : {m n : _} → Row_of-Cond m → Scope → Row_of-LCond n → Type 0
    ReadsEach end_of-Cond around end_of-LCond = ⊤
    ReadsEach (more_of-Cond part rest) around (more_of-LCond number numbers) = Reads part around number × ReadsEach rest around numbers
    ReadsEach parts around numbers = ⊥

  -- the outermost form of a written condition, by a number
  written_form : {X : Type 0} → written.Cond-F X → ℕ
  written_form written.Truth = 0
  written_form (written.Holds atom) = 1
  written_form (written.Equal term other) = 2
  written_form (written.And parts) = 3
  written_form (written.Or parts) = 4
  written_form (written.Not part) = 5
  written_form (written.Imply part other) = 6
  written_form (written.Forall names part) = 7
  written_form (written.Exists names part) = 8

  -- the outermost form of a condition over numbers, by the same number
  numbered_form : numbered.LCond-F LCond → ℕ
  numbered_form numbered.Truth = 0
  numbered_form (numbered.Holds atom) = 1
  numbered_form (numbered.Equal term other) = 2
  numbered_form (numbered.And parts) = 3
  numbered_form (numbered.Or parts) = 4
  numbered_form (numbered.Not part) = 5
  numbered_form (numbered.Imply part other) = 6
  numbered_form (numbered.Forall names part) = 7
  numbered_form (numbered.Exists names part) = 8

  -- if a form over numbers is that of a written one, both have one number
  one_form : (layer : written.Cond-F (Scope → LCond → Bool)) (around : Scope) (number : numbered.LCond-F LCond) → condition_step meanings layer around number ≡ true → written_form layer ≡ numbered_form number
  unfolding written_form numbered_form
  one_form written.Truth around numbered.Truth h = refl
  one_form (written.Holds atom) around (numbered.Holds number) h = refl
  one_form (written.Equal term other) around (numbered.Equal number next) h = refl
  one_form (written.And parts) around (numbered.And numbers) h = refl
  one_form (written.Or parts) around (numbered.Or numbers) h = refl
  one_form (written.Not part) around (numbered.Not number) h = refl
  one_form (written.Imply part other) around (numbered.Imply number next) h = refl
  one_form (written.Forall names part) around (numbered.Forall ranges number) h = refl
  one_form (written.Exists names part) around (numbered.Exists ranges number) h = refl
  one_form layer around number h = cc

  -- the test for conditions, at the outermost forms of both
  opened : (condition : Cond) (layer : written.Cond-F Cond) → out-Cond condition ≡ layer → (number : LCond) (over : numbered.LCond-F LCond) → out-LCond number ≡ over → (around : Scope) →
      is_condition meanings condition around number ≡ condition_step meanings (map-Cond Cond (Scope → LCond → Bool) (is_condition meanings) layer) around over
  opened condition layer is number over also around =
      ap (λ holds. holds around number) (fold_out-Cond (Scope → LCond → Bool) (λ form around number. condition_step meanings form around (out-LCond number)) condition)
      ∙ ap (λ form. condition_step meanings (map-Cond Cond (Scope → LCond → Bool) (is_condition meanings) form) around (out-LCond number)) is
      ∙ ap (λ form. condition_step meanings (map-Cond Cond (Scope → LCond → Bool) (is_condition meanings) layer) around form) also

  -- the number of the form of a written condition
  abbrev form_of : Cond → ℕ
  form_of condition = written_form (map-Cond Cond (Scope → LCond → Bool) (is_condition meanings) (out-Cond condition))

  -- the same number, by cases
  abbrev kind : Cond → ℕ
  kind Truth = 0
  kind (Holds atom) = 1
  kind (Equal term other) = 2
  kind (And' shape parts) = 3
  kind (Or' shape parts) = 4
  kind (Not' shape part) = 5
  kind (Imply' shape part after other) = 6
  kind (Forall' names shape part) = 7
  kind (Exists' names shape part) = 8

  -- the number of a form is that of the form that is known
  form_of_layer : (condition : Cond) (layer : written.Cond-F Cond) → out-Cond condition ≡ layer → form_of condition ≡ written_form (map-Cond Cond (Scope → LCond → Bool) (is_condition meanings) layer)
  form_of_layer condition layer is = ap (λ form. written_form (map-Cond Cond (Scope → LCond → Bool) (is_condition meanings) form)) is

  -- the cases give the number of a form
  form_is : (condition : Cond) → form_of condition ≡ kind condition
  unfolding written_form
  form_is Truth = form_of_layer Truth _ written_view.outs-Truth
  form_is (Holds atom) = form_of_layer (Holds atom) _ (written_view.outs-Holds atom)
  form_is (Equal term other) = form_of_layer (Equal term other) _ (written_view.outs-Equal term other)
  form_is (And' shape parts) = form_of_layer (And' shape parts) _ (written_view.outs-And' shape parts)
  form_is (Or' shape parts) = form_of_layer (Or' shape parts) _ (written_view.outs-Or' shape parts)
  form_is (Not' shape part) = form_of_layer (Not' shape part) _ (written_view.outs-Not' shape part)
  form_is (Imply' shape part after other) = form_of_layer (Imply' shape part after other) _ (written_view.outs-Imply' shape part after other)
  form_is (Forall' names shape part) = form_of_layer (Forall' names shape part) _ (written_view.outs-Forall' names shape part)
  form_is (Exists' names shape part) = form_of_layer (Exists' names shape part) _ (written_view.outs-Exists' names shape part)

  -- the number of the form of a condition over numbers, by cases
  abbrev numbered_kind : LCond → ℕ
  numbered_kind form.Truth = 0
  numbered_kind (form.Holds atom) = 1
  numbered_kind (form.Equal term other) = 2
  numbered_kind (form.And' shape parts) = 3
  numbered_kind (form.Or' shape parts) = 4
  numbered_kind (form.Not' shape part) = 5
  numbered_kind (form.Imply' shape part after other) = 6
  numbered_kind (form.Forall' names shape part) = 7
  numbered_kind (form.Exists' names shape part) = 8

  -- the cases give the number of a form over numbers
  numbered_is : (number : LCond) → numbered_form (out-LCond number) ≡ numbered_kind number
  unfolding numbered_form
  numbered_is form.Truth = ap numbered_form numbered_view.outs-Truth
  numbered_is (form.Holds atom) = ap numbered_form (numbered_view.outs-Holds atom)
  numbered_is (form.Equal term other) = ap numbered_form (numbered_view.outs-Equal term other)
  numbered_is (form.And' shape parts) = ap numbered_form (numbered_view.outs-And' shape parts)
  numbered_is (form.Or' shape parts) = ap numbered_form (numbered_view.outs-Or' shape parts)
  numbered_is (form.Not' shape part) = ap numbered_form (numbered_view.outs-Not' shape part)
  numbered_is (form.Imply' shape part after other) = ap numbered_form (numbered_view.outs-Imply' shape part after other)
  numbered_is (form.Forall' names shape part) = ap numbered_form (numbered_view.outs-Forall' names shape part)
  numbered_is (form.Exists' names shape part) = ap numbered_form (numbered_view.outs-Exists' names shape part)

  -- a condition over numbers that is a written one has its form
  one_kind : (condition : Cond) (around : Scope) (number : LCond) → is_condition meanings condition around number ≡ true → kind condition ≡ numbered_kind number
  one_kind condition around number h =
      sym (form_is condition)
      ∙ one_form (map-Cond Cond (Scope → LCond → Bool) (is_condition meanings) (out-Cond condition)) around (out-LCond number) (sym (opened condition _ refl number _ refl around) ∙ h)
      ∙ numbered_is number

  -- the members of a vector are those of its row
  shown : {parts items : List Cond} {numbers others : List LCond} (around : Scope) → parts ≡ items → numbers ≡ others →
      each_passes (map (λ part. part around) (map (is_condition meanings) parts)) numbers ≡ each_passes (map (λ part. part around) (map (is_condition meanings) items)) others
  shown around e d = λ i. each_passes (map (λ part. part around) (map (is_condition meanings) (e i))) (d i)

  mutual
    -- a condition over numbers that is a written one has its form and its parts
    pub reads : (condition : Cond) (around : Scope) (number : LCond) → is_condition meanings condition around number ≡ true → Reads condition around number
    reads Truth around form.Truth h = tt
    reads (Holds atom) around (form.Holds number) h = sym (opened (Holds atom) _ (written_view.outs-Holds atom) (form.Holds number) _ (numbered_view.outs-Holds number) around) ∙ h
    reads (Equal term other) around (form.Equal number next) h =
        and_parts (is_term meanings around term number) (is_term meanings around other next)
        (sym (opened (Equal term other) _ (written_view.outs-Equal term other) (form.Equal number next) _ (numbered_view.outs-Equal number next) around) ∙ h)
    reads (And' shape parts) around (form.And' over numbers) h =
        reads_each parts around numbers
        (sym (opened (And' shape parts) _ (written_view.outs-And' shape parts) (form.And' over numbers) _ (numbered_view.outs-And' over numbers) around
        ∙ shown around (items_shown-the_row-Cond-0 shape parts) (items_shown-the_row-LCond-0 over numbers)) ∙ h)
    reads (Or' shape parts) around (form.Or' over numbers) h =
        reads_each parts around numbers
        (sym (opened (Or' shape parts) _ (written_view.outs-Or' shape parts) (form.Or' over numbers) _ (numbered_view.outs-Or' over numbers) around
        ∙ shown around (items_shown-the_row-Cond-0 shape parts) (items_shown-the_row-LCond-0 over numbers)) ∙ h)
    reads (Not' shape part) around (form.Not' over number) h =
        reads part around number (sym (opened (Not' shape part) _ (written_view.outs-Not' shape part) (form.Not' over number) _ (numbered_view.outs-Not' over number) around) ∙ h)
    reads (Imply' shape part after other) around (form.Imply' over number later next) h =
        let both = and_parts (is_condition meanings part around number) (is_condition meanings other around next)
        (sym (opened (Imply' shape part after other) _ (written_view.outs-Imply' shape part after other) (form.Imply' over number later next) _ (numbered_view.outs-Imply' over number later next) around) ∙ h) in
        (reads part around number both.0, reads other around next both.1)
    reads (Forall' names shape part) around (form.Forall' ranges over number) h =
        let both = and_parts (are_ranges meanings names ranges) (is_condition meanings part (names ∷ around) number)
        (sym (opened (Forall' names shape part) _ (written_view.outs-Forall' names shape part) (form.Forall' ranges over number) _ (numbered_view.outs-Forall' ranges over number) around) ∙ h) in
        (both.0, reads part (names ∷ around) number both.1)
    reads (Exists' names shape part) around (form.Exists' ranges over number) h =
        let both = and_parts (are_ranges meanings names ranges) (is_condition meanings part (names ∷ around) number)
        (sym (opened (Exists' names shape part) _ (written_view.outs-Exists' names shape part) (form.Exists' ranges over number) _ (numbered_view.outs-Exists' ranges over number) around) ∙ h) in
        (both.0, reads part (names ∷ around) number both.1)
    reads condition around number h = let differ = one_kind condition around number h in absurd (omega (arith, differ))

    -- and so do the members of rows
    reads_each : {m n : _} (parts : Row_of-Cond m) (around : Scope) (numbers : Row_of-LCond n) → each_passes (map (λ part. part around) (map (is_condition meanings) (items-the_row-Cond _ parts))) (items-the_row-LCond _ numbers) ≡ true → ReadsEach parts around numbers
    reads_each end_of-Cond around end_of-LCond h = tt
    reads_each end_of-Cond around (more_of-LCond number numbers) h = absurd (cc)
    reads_each (more_of-Cond part rest) around end_of-LCond h = absurd (cc)
    reads_each (more_of-Cond part rest) around (more_of-LCond number numbers) h =
        let both = and_parts (is_condition meanings part around number) _ h in
        (reads part around number both.0, reads_each rest around numbers both.1)
