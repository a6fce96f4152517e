-- Effects that are the same are the same over numbers, and mention the same predicates.
use Rattle.std.proofs.Common.{◌≡◌, ℕ, ◌∙◌, ◌||◌, Bool, true, List, ◌∷◌, map, refl, sym, ap, subst}
use Rattle.std.specs.List.{list_any}
use Rattle.fond_text.specs.Lists.{are_distinct_texts}
use Rattle.fond_ast.specs.declared.syntax.Effect.{Effect, out-Effect, Nothing, Add, Delete, And', Forall', When', OneOf', Row_of-Effect, end_of-Effect, more_of-Effect, items-the_row-Effect, items_shown-the_row-Effect-0}
use Rattle.fond_ast.specs.declared.syntax.Effect.TheOpen.{Effect-F}
use Rattle.fond_ast.specs.declared.syntax.Effect.TheFolds.{fold_out-Effect, map-Effect}
use Rattle.fond_ast.specs.declared.syntax.Effect.TheViews.{outs-And', outs-Forall', outs-When', outs-OneOf'}
use Rattle.fond_ast.specs.declared.form.LEffect.{LEffect, Row_of-LEffect, end_of-LEffect, more_of-LEffect}
use Rattle.fond_ast.specs.declared.form.LEffect as form
use Rattle.fond_types.specs.Resolves.{Meanings, is_effect, mentions, mentions_step}
use Rattle.fond_names.specs.Sites.{Scope}
use Rattle.fond_laws.specs.Read.{IsSameRead, AreSameReads}
use Rattle.fond_laws.specs.Lifted.{IsSameEffect, AreSameEffects}
use Rattle.fond_laws.proofs.OneTaskChanges.{Makes, MakesEach, makes}
use Rattle.fond_laws.proofs.OneTaskConditions.{same_atoms, same_ranges, same_condition}

module _ (meanings : Meanings) (predicates : are_distinct_texts meanings.predicates ≡ true) (objects : are_distinct_texts meanings.objects ≡ true) where
  mutual
    -- effects with the forms and parts of effects that are the same are the same
    same_made : (effect other : Effect) (around : Scope) (number next : LEffect) → IsSameRead effect other → Makes meanings effect around number → Makes meanings other around next → IsSameEffect number next
    same_made Nothing Nothing around form.Nothing form.Nothing e h k = tt
    same_made Nothing Nothing around form.Nothing next e h k = absurd k
    same_made Nothing Nothing around number next e h k = absurd h
    same_made (Add atom) (Add read) around (form.Add number) (form.Add next) e h k = same_atoms meanings predicates objects around atom read number next e h k
    same_made (Add atom) (Add read) around (form.Add number) next e h k = absurd k
    same_made (Add atom) (Add read) around number next e h k = absurd h
    same_made (Delete atom) (Delete read) around (form.Delete number) (form.Delete next) e h k = same_atoms meanings predicates objects around atom read number next e h k
    same_made (Delete atom) (Delete read) around (form.Delete number) next e h k = absurd k
    same_made (Delete atom) (Delete read) around number next e h k = absurd h
    same_made (And' shape parts) (And' over others) around (form.And' inner numbers) (form.And' outer nexts) e h k = same_each parts others around numbers nexts e h k
    same_made (And' shape parts) (And' over others) around (form.And' inner numbers) next e h k = absurd k
    same_made (And' shape parts) (And' over others) around number next e h k = absurd h
    same_made (Forall' names shape part) (Forall' read over other) around (form.Forall' ranges inner number) (form.Forall' others outer next) e h k =
        (same_ranges meanings predicates objects names read ranges others e.0 h.0 k.0, same_made part other (names ∷ around) number next e.1 h.1 (subst (λ some. Makes meanings other (some ∷ around) next) (sym e.0) k.1))
    same_made (Forall' names shape part) (Forall' read over other) around (form.Forall' ranges inner number) next e h k = absurd k
    same_made (Forall' names shape part) (Forall' read over other) around number next e h k = absurd h
    same_made (When' condition shape part) (When' read over other) around (form.When' holds inner number) (form.When' also outer next) e h k =
        (same_condition meanings predicates objects condition read around holds also e.0 h.0 k.0, same_made part other around number next e.1 h.1 k.1)
    same_made (When' condition shape part) (When' read over other) around (form.When' holds inner number) next e h k = absurd k
    same_made (When' condition shape part) (When' read over other) around number next e h k = absurd h
    same_made (OneOf' shape parts) (OneOf' over others) around (form.OneOf' inner numbers) (form.OneOf' outer nexts) e h k = same_each parts others around numbers nexts e h k
    same_made (OneOf' shape parts) (OneOf' over others) around (form.OneOf' inner numbers) next e h k = absurd k
    same_made (OneOf' shape parts) (OneOf' over others) around number next e h k = absurd h
    same_made effect other around number next e h k = absurd e

    -- and so are the members of rows
    same_each : {a b m n : _} (parts : Row_of-Effect a) (others : Row_of-Effect b) (around : Scope) (numbers : Row_of-LEffect m) (nexts : Row_of-LEffect n) → AreSameReads parts others → MakesEach meanings parts around numbers → MakesEach meanings others around nexts → AreSameEffects numbers nexts
    same_each end_of-Effect end_of-Effect around end_of-LEffect end_of-LEffect e h k = tt
    same_each end_of-Effect end_of-Effect around end_of-LEffect nexts e h k = absurd k
    same_each end_of-Effect end_of-Effect around numbers nexts e h k = absurd h
    same_each (more_of-Effect part parts) (more_of-Effect other others) around (more_of-LEffect number numbers) (more_of-LEffect next nexts) e h k = (same_made part other around number next e.0 h.0 k.0, same_each parts others around numbers nexts e.1 h.1 k.1)
    same_each (more_of-Effect part parts) (more_of-Effect other others) around (more_of-LEffect number numbers) nexts e h k = absurd k
    same_each (more_of-Effect part parts) (more_of-Effect other others) around numbers nexts e h k = absurd h
    same_each parts others around numbers nexts e h k = absurd e

  -- effects over numbers that are those of effects that are the same are the same
  pub same_effect : (effect other : Effect) (around : Scope) (number next : LEffect) → IsSameRead effect other → is_effect meanings effect around number ≡ true → is_effect meanings other around next ≡ true → IsSameEffect number next
  same_effect effect other around number next e h k = same_made effect other around number next e (makes meanings effect around number h) (makes meanings other around next k)

module _ (name : List ℕ) where
  -- what an effect mentions, at its outermost form
  mentions-at : (effect : Effect) (layer : Effect-F Effect) → out-Effect effect ≡ layer → mentions name effect ≡ mentions_step name (map-Effect Effect Bool (mentions name) layer)
  mentions-at effect layer is = fold_out-Effect Bool (mentions_step name) effect ∙ ap (λ form. mentions_step name (map-Effect Effect Bool (mentions name) form)) is

  -- whether some of these effects mentions the predicate
  abbrev some_of : List Effect → Bool
  some_of parts = list_any (λ part. part) (map (mentions name) parts)

  mutual
    -- effects that are the same mention the same predicates
    pub same_mentions : (effect other : Effect) → IsSameRead effect other → mentions name effect ≡ mentions name other
    same_mentions Nothing Nothing e = refl
    same_mentions (Add atom) (Add read) e = ap (λ some. mentions name (Add some)) e
    same_mentions (Delete atom) (Delete read) e = ap (λ some. mentions name (Delete some)) e
    same_mentions (And' shape parts) (And' over others) e =
        mentions-at (And' shape parts) _ (outs-And' shape parts) ∙ ap some_of (items_shown-the_row-Effect-0 shape parts) ∙ same_some parts others e
        ∙ sym (mentions-at (And' over others) _ (outs-And' over others) ∙ ap some_of (items_shown-the_row-Effect-0 over others))
    same_mentions (Forall' names shape part) (Forall' read over other) e =
        mentions-at (Forall' names shape part) _ (outs-Forall' names shape part) ∙ same_mentions part other e.1 ∙ sym (mentions-at (Forall' read over other) _ (outs-Forall' read over other))
    same_mentions (When' condition shape part) (When' read over other) e =
        mentions-at (When' condition shape part) _ (outs-When' condition shape part) ∙ same_mentions part other e.1 ∙ sym (mentions-at (When' read over other) _ (outs-When' read over other))
    same_mentions (OneOf' shape parts) (OneOf' over others) e =
        mentions-at (OneOf' shape parts) _ (outs-OneOf' shape parts) ∙ ap some_of (items_shown-the_row-Effect-0 shape parts) ∙ same_some parts others e
        ∙ sym (mentions-at (OneOf' over others) _ (outs-OneOf' over others) ∙ ap some_of (items_shown-the_row-Effect-0 over others))
    same_mentions effect other e = absurd e

    -- rows that are the same do so too
    same_some : {m n : _} (parts : Row_of-Effect m) (others : Row_of-Effect n) → AreSameReads parts others → some_of (items-the_row-Effect _ parts) ≡ some_of (items-the_row-Effect _ others)
    same_some end_of-Effect end_of-Effect e = refl
    same_some (more_of-Effect part parts) (more_of-Effect other others) e = λ i. same_mentions part other e.0 i || same_some parts others e.1 i
    same_some parts others e = absurd e
