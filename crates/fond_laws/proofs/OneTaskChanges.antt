-- An effect over numbers that is a written one has its form, and its parts are those of the written one.
use Rattle.std.proofs.Common.{◌≡◌, ℕ, ◌∙◌, Bool, true, List, ◌∷◌, map, refl, sym, ap, arith}
use Rattle.std.specs.Prelude.{⊤}
use Rattle.fond_text.specs.Lists.{each_passes}
use Rattle.fond_ast.specs.declared.syntax.Effect.{Effect, out-Effect, Nothing, Add, Delete, And', Forall', When', OneOf', Row_of-Effect, end_of-Effect, more_of-Effect, items-the_row-Effect, items_shown-the_row-Effect-0}
use Rattle.fond_ast.specs.declared.syntax.Effect.TheViews as written_view
use Rattle.fond_ast.specs.declared.form.LEffect.TheViews as numbered_view
use Rattle.fond_ast.specs.declared.syntax.Effect.TheOpen as written
use Rattle.fond_ast.specs.declared.syntax.Effect.TheFolds.{fold_out-Effect, map-Effect}
use Rattle.fond_ast.specs.declared.form.LEffect.{LEffect, out-LEffect, Row_of-LEffect, end_of-LEffect, more_of-LEffect, items-the_row-LEffect, items_shown-the_row-LEffect-0}
use Rattle.fond_ast.specs.declared.form.LEffect as form
use Rattle.fond_ast.specs.declared.form.LEffect.TheOpen as numbered
use Rattle.fond_types.specs.Resolves.{Meanings, is_atom, are_ranges, is_condition, is_effect, effect_step}
use Rattle.fond_names.specs.Sites.{Scope}
use Rattle.fond_names.proofs.Members.{and_parts}

module _ (meanings : Meanings) where
  -- an effect over numbers has the form of a written one, and its parts are those of the parts
  abbrev mutual
    pub Makes : Effect → Scope → LEffect → Type 0
    Makes Nothing around form.Nothing = ⊤
    Makes (Add atom) around (form.Add number) = is_atom meanings around atom number ≡ true
    Makes (Delete atom) around (form.Delete number) = is_atom meanings around atom number ≡ true
    Makes (And' shape parts) around (form.And' over numbers) = MakesEach parts around numbers
    Makes (Forall' names shape part) around (form.Forall' ranges over number) = (are_ranges meanings names ranges ≡ true) × Makes part (names ∷ around) number
    Makes (When' condition shape part) around (form.When' holds over number) = (is_condition meanings condition around holds ≡ true) × Makes part around number
    Makes (OneOf' shape parts) around (form.OneOf' over numbers) = MakesEach parts around numbers
    Makes effect around number = ⊥

    -- the members of rows are those of each other, one by one
    pub MakesEach : {m n : _} → Row_of-Effect m → Scope → Row_of-LEffect n → Type 0
    MakesEach end_of-Effect around end_of-LEffect = ⊤
    MakesEach (more_of-Effect part rest) around (more_of-LEffect number numbers) = Makes part around number × MakesEach rest around numbers
    MakesEach parts around numbers = ⊥

  -- the outermost form of a written effect, by a number
  written_form : {X : Type 0} → written.Effect-F X → ℕ
  written_form written.Nothing = 0
  written_form (written.Add atom) = 1
  written_form (written.Delete atom) = 2
  written_form (written.And parts) = 3
  written_form (written.Forall names part) = 4
  written_form (written.When condition part) = 5
  written_form (written.OneOf parts) = 6

  -- the outermost form of an effect over numbers, by the same number
  numbered_form : numbered.LEffect-F LEffect → ℕ
  numbered_form numbered.Nothing = 0
  numbered_form (numbered.Add atom) = 1
  numbered_form (numbered.Delete atom) = 2
  numbered_form (numbered.And parts) = 3
  numbered_form (numbered.Forall names part) = 4
  numbered_form (numbered.When condition part) = 5
  numbered_form (numbered.OneOf parts) = 6

  -- if a form over numbers is that of a written one, both have one number
  one_form : (layer : written.Effect-F (Scope → LEffect → Bool)) (around : Scope) (number : numbered.LEffect-F LEffect) → effect_step meanings layer around number ≡ true → written_form layer ≡ numbered_form number
  unfolding written_form numbered_form
  one_form written.Nothing around numbered.Nothing h = refl
  one_form (written.Add atom) around (numbered.Add number) h = refl
  one_form (written.Delete atom) around (numbered.Delete number) h = refl
  one_form (written.And parts) around (numbered.And numbers) h = refl
  one_form (written.Forall names part) around (numbered.Forall ranges number) h = refl
  one_form (written.When condition part) around (numbered.When holds number) h = refl
  one_form (written.OneOf parts) around (numbered.OneOf numbers) h = refl
  one_form layer around number h = cc

  -- the test for effects, at the outermost forms of both
  opened : (effect : Effect) (layer : written.Effect-F Effect) → out-Effect effect ≡ layer → (number : LEffect) (over : numbered.LEffect-F LEffect) → out-LEffect number ≡ over → (around : Scope) →
      is_effect meanings effect around number ≡ effect_step meanings (map-Effect Effect (Scope → LEffect → Bool) (is_effect meanings) layer) around over
  opened effect layer is number over also around =
      ap (λ holds. holds around number) (fold_out-Effect (Scope → LEffect → Bool) (λ form around number. effect_step meanings form around (out-LEffect number)) effect)
      ∙ ap (λ form. effect_step meanings (map-Effect Effect (Scope → LEffect → Bool) (is_effect meanings) form) around (out-LEffect number)) is
      ∙ ap (λ form. effect_step meanings (map-Effect Effect (Scope → LEffect → Bool) (is_effect meanings) layer) around form) also

  -- the number of the form of a written effect
  abbrev form_of : Effect → ℕ
  form_of effect = written_form (map-Effect Effect (Scope → LEffect → Bool) (is_effect meanings) (out-Effect effect))

  -- the same number, by cases
  abbrev kind : Effect → ℕ
  kind Nothing = 0
  kind (Add atom) = 1
  kind (Delete atom) = 2
  kind (And' shape parts) = 3
  kind (Forall' names shape part) = 4
  kind (When' condition shape part) = 5
  kind (OneOf' shape parts) = 6

  -- the number of a form is that of the form that is known
  form_of_layer : (effect : Effect) (layer : written.Effect-F Effect) → out-Effect effect ≡ layer → form_of effect ≡ written_form (map-Effect Effect (Scope → LEffect → Bool) (is_effect meanings) layer)
  form_of_layer effect layer is = ap (λ form. written_form (map-Effect Effect (Scope → LEffect → Bool) (is_effect meanings) form)) is

  -- the cases give the number of a form
  form_is : (effect : Effect) → form_of effect ≡ kind effect
  unfolding written_form
  form_is Nothing = form_of_layer Nothing _ written_view.outs-Nothing
  form_is (Add atom) = form_of_layer (Add atom) _ (written_view.outs-Add atom)
  form_is (Delete atom) = form_of_layer (Delete atom) _ (written_view.outs-Delete atom)
  form_is (And' shape parts) = form_of_layer (And' shape parts) _ (written_view.outs-And' shape parts)
  form_is (Forall' names shape part) = form_of_layer (Forall' names shape part) _ (written_view.outs-Forall' names shape part)
  form_is (When' condition shape part) = form_of_layer (When' condition shape part) _ (written_view.outs-When' condition shape part)
  form_is (OneOf' shape parts) = form_of_layer (OneOf' shape parts) _ (written_view.outs-OneOf' shape parts)

  -- the number of the form of an effect over numbers, by cases
  abbrev numbered_kind : LEffect → ℕ
  numbered_kind form.Nothing = 0
  numbered_kind (form.Add atom) = 1
  numbered_kind (form.Delete atom) = 2
  numbered_kind (form.And' shape parts) = 3
  numbered_kind (form.Forall' names shape part) = 4
  numbered_kind (form.When' condition shape part) = 5
  numbered_kind (form.OneOf' shape parts) = 6

  -- the cases give the number of a form over numbers
  numbered_is : (number : LEffect) → numbered_form (out-LEffect number) ≡ numbered_kind number
  unfolding numbered_form
  numbered_is form.Nothing = ap numbered_form numbered_view.outs-Nothing
  numbered_is (form.Add atom) = ap numbered_form (numbered_view.outs-Add atom)
  numbered_is (form.Delete atom) = ap numbered_form (numbered_view.outs-Delete atom)
  numbered_is (form.And' shape parts) = ap numbered_form (numbered_view.outs-And' shape parts)
  numbered_is (form.Forall' names shape part) = ap numbered_form (numbered_view.outs-Forall' names shape part)
  numbered_is (form.When' condition shape part) = ap numbered_form (numbered_view.outs-When' condition shape part)
  numbered_is (form.OneOf' shape parts) = ap numbered_form (numbered_view.outs-OneOf' shape parts)

  -- an effect over numbers that is a written one has its form
  one_kind : (effect : Effect) (around : Scope) (number : LEffect) → is_effect meanings effect around number ≡ true → kind effect ≡ numbered_kind number
  one_kind effect around number h =
      sym (form_is effect)
      ∙ one_form (map-Effect Effect (Scope → LEffect → Bool) (is_effect meanings) (out-Effect effect)) around (out-LEffect number) (sym (opened effect _ refl number _ refl around) ∙ h)
      ∙ numbered_is number

  -- the members of a vector are those of its row
  shown : {parts items : List Effect} {numbers others : List LEffect} (around : Scope) → parts ≡ items → numbers ≡ others →
      each_passes (map (λ part. part around) (map (is_effect meanings) parts)) numbers ≡ each_passes (map (λ part. part around) (map (is_effect meanings) items)) others
  shown around e d = λ i. each_passes (map (λ part. part around) (map (is_effect meanings) (e i))) (d i)

  mutual
    -- an effect over numbers that is a written one has its form and its parts
    pub makes : (effect : Effect) (around : Scope) (number : LEffect) → is_effect meanings effect around number ≡ true → Makes effect around number
    makes Nothing around form.Nothing h = tt
    makes (Add atom) around (form.Add number) h = sym (opened (Add atom) _ (written_view.outs-Add atom) (form.Add number) _ (numbered_view.outs-Add number) around) ∙ h
    makes (Delete atom) around (form.Delete number) h = sym (opened (Delete atom) _ (written_view.outs-Delete atom) (form.Delete number) _ (numbered_view.outs-Delete number) around) ∙ h
    makes (And' shape parts) around (form.And' over numbers) h =
        makes_each parts around numbers
        (sym (opened (And' shape parts) _ (written_view.outs-And' shape parts) (form.And' over numbers) _ (numbered_view.outs-And' over numbers) around
        ∙ shown around (items_shown-the_row-Effect-0 shape parts) (items_shown-the_row-LEffect-0 over numbers)) ∙ h)
    makes (Forall' names shape part) around (form.Forall' ranges over number) h =
        let both = and_parts (are_ranges meanings names ranges) (is_effect meanings part (names ∷ around) number)
        (sym (opened (Forall' names shape part) _ (written_view.outs-Forall' names shape part) (form.Forall' ranges over number) _ (numbered_view.outs-Forall' ranges over number) around) ∙ h) in
        (both.0, makes part (names ∷ around) number both.1)
    makes (When' condition shape part) around (form.When' holds over number) h =
        let both = and_parts (is_condition meanings condition around holds) (is_effect meanings part around number)
        (sym (opened (When' condition shape part) _ (written_view.outs-When' condition shape part) (form.When' holds over number) _ (numbered_view.outs-When' holds over number) around) ∙ h) in
        (both.0, makes part around number both.1)
    makes (OneOf' shape parts) around (form.OneOf' over numbers) h =
        makes_each parts around numbers
        (sym (opened (OneOf' shape parts) _ (written_view.outs-OneOf' shape parts) (form.OneOf' over numbers) _ (numbered_view.outs-OneOf' over numbers) around
        ∙ shown around (items_shown-the_row-Effect-0 shape parts) (items_shown-the_row-LEffect-0 over numbers)) ∙ h)
    makes effect around number h = let differ = one_kind effect around number h in absurd (omega (arith, differ))

    -- and so do the members of rows
    makes_each : {m n : _} (parts : Row_of-Effect m) (around : Scope) (numbers : Row_of-LEffect n) → each_passes (map (λ part. part around) (map (is_effect meanings) (items-the_row-Effect _ parts))) (items-the_row-LEffect _ numbers) ≡ true → MakesEach parts around numbers
    makes_each end_of-Effect around end_of-LEffect h = tt
    makes_each end_of-Effect around (more_of-LEffect number numbers) h = absurd (cc)
    makes_each (more_of-Effect part rest) around end_of-LEffect h = absurd (cc)
    makes_each (more_of-Effect part rest) around (more_of-LEffect number numbers) h =
        let both = and_parts (is_effect meanings part around number) _ h in
        (makes part around number both.0, makes_each rest around numbers both.1)
