-- The predicates of the literals of an effect are those that it mentions.
use Rattle.std.proofs.Common.{◌≡◌, ℕ, zero, suc, Bool, true, List, [], ◌∷◌, Some, map, slice_get, refl, ap, ◌∙◌}
use Rattle.std.specs.List.{list_all, list_any}
use Rattle.fond_ast.specs.declared.files.Domain.{Domain}
use Rattle.fond_ast.specs.declared.files.Schema.{Schema}
use Rattle.fond_ast.specs.declared.syntax.Effect.{Effect, out-Effect, Nothing, Add, Delete, And', Forall', When', OneOf', Row_of-Effect, end_of-Effect, more_of-Effect}
use Rattle.fond_ast.specs.declared.syntax.Effect.TheBlock.{items-the_row-Effect, items_shown-the_row-Effect-0}
use Rattle.fond_ast.specs.declared.syntax.Effect.TheOpen as open_effect
use Rattle.fond_ast.specs.declared.syntax.Effect.TheFolds.{fold_out-Effect, map-Effect}
use Rattle.fond_ast.specs.declared.syntax.Effect.TheViews.{outs-Nothing, outs-Add, outs-Delete, outs-And', outs-Forall', outs-When', outs-OneOf'}
use Rattle.fond_types.specs.Resolves.{mentions, mentions_step}
use Rattle.fond_types.specs.Sound.{is_mentioned, literals_pass, literals_step}
use Rattle.fond_names.proofs.Differs.{same_text}
use Rattle.fond_names.proofs.Members.{and_both, or_left, or_right}

mentions_by : (name : List ℕ) (effect : Effect) (layer : open_effect.Effect-F Effect) → out-Effect effect ≡ layer → mentions name effect ≡ mentions_step name (map-Effect Effect Bool (mentions name) layer)
mentions_by name effect layer is = fold_out-Effect Bool (mentions_step name) effect ∙ ap (λ x. mentions_step name (map-Effect Effect Bool (mentions name) x)) is

module _ (passes : List ℕ → Bool) where
  -- whether the literals of an effect pass, by its outermost form
  pub literals_by : (effect : Effect) (layer : open_effect.Effect-F Effect) → out-Effect effect ≡ layer → literals_pass passes effect ≡ literals_step passes (map-Effect Effect Bool (literals_pass passes) layer)
  literals_by effect layer is = fold_out-Effect Bool (literals_step passes) effect ∙ ap (λ x. literals_step passes (map-Effect Effect Bool (literals_pass passes) x)) is

  mutual
    literals : (effect : Effect) → ((name : List ℕ) → mentions name effect ≡ true → passes name ≡ true) → literals_pass passes effect ≡ true
    literals Nothing m = literals_by Nothing open_effect.Nothing outs-Nothing
    literals (Add atom) m = literals_by (Add atom) (open_effect.Add atom) (outs-Add atom) ∙ m atom.name (mentions_by atom.name (Add atom) (open_effect.Add atom) (outs-Add atom) ∙ same_text atom.name)
    literals (Delete atom) m = literals_by (Delete atom) (open_effect.Delete atom) (outs-Delete atom) ∙ m atom.name (mentions_by atom.name (Delete atom) (open_effect.Delete atom) (outs-Delete atom) ∙ same_text atom.name)
    literals (And' shape row) m =
        literals_by (And' shape row) _ (outs-And' shape row) ∙ ap (λ items. list_all (λ part. part) (map (literals_pass passes) items)) (items_shown-the_row-Effect-0 shape row)
        ∙ row_literals row (λ name h. m name (mentions_by name (And' shape row) _ (outs-And' shape row) ∙ ap (λ items. list_any (λ part. part) (map (mentions name) items)) (items_shown-the_row-Effect-0 shape row) ∙ h))
    literals (OneOf' shape row) m =
        literals_by (OneOf' shape row) _ (outs-OneOf' shape row) ∙ ap (λ items. list_all (λ part. part) (map (literals_pass passes) items)) (items_shown-the_row-Effect-0 shape row)
        ∙ row_literals row (λ name h. m name (mentions_by name (OneOf' shape row) _ (outs-OneOf' shape row) ∙ ap (λ items. list_any (λ part. part) (map (mentions name) items)) (items_shown-the_row-Effect-0 shape row) ∙ h))
    literals (Forall' names pointer part) m = literals_by (Forall' names pointer part) _ (outs-Forall' names pointer part) ∙ literals part (λ name h. m name (mentions_by name (Forall' names pointer part) _ (outs-Forall' names pointer part) ∙ h))
    literals (When' condition pointer part) m = literals_by (When' condition pointer part) _ (outs-When' condition pointer part) ∙ literals part (λ name h. m name (mentions_by name (When' condition pointer part) _ (outs-When' condition pointer part) ∙ h))

    row_literals : {k : _} (row : Row_of-Effect k) → ((name : List ℕ) → list_any (λ part. part) (map (mentions name) (items-the_row-Effect k row)) ≡ true → passes name ≡ true) → list_all (λ part. part) (map (literals_pass passes) (items-the_row-Effect k row)) ≡ true
    row_literals end_of-Effect m = refl
    row_literals (more_of-Effect part rest) m =
        and_both (literals_pass passes part) _
        (literals part (λ name h. m name (or_left (mentions name part) (list_any (λ one. one) (map (mentions name) (items-the_row-Effect _ rest))) h)))
        (row_literals rest (λ name h. m name (or_right (mentions name part) (list_any (λ one. one) (map (mentions name) (items-the_row-Effect _ rest))) h)))

any_got : {X : Type 0} (p : X → Bool) (xs : List X) (i : ℕ) (x : X) → slice_get xs i ≡ Some x → p x ≡ true → list_any p xs ≡ true
any_got p [] i x got h = cc
any_got p (y ∷ xs) zero x got h = let same : y ≡ x = cc in or_left (p y) (list_any p xs) (ap p same ∙ h)
any_got p (y ∷ xs) (suc i) x got h = or_right (p y) (list_any p xs) (any_got p xs i x got h)

-- the predicates of the literals of each schema are mentioned
pub own_literals : (domain : Domain) (i : ℕ) (schema : Schema) → slice_get domain.schemas i ≡ Some schema → literals_pass (is_mentioned domain) schema.effect ≡ true
own_literals domain i schema got = literals (is_mentioned domain) schema.effect (λ name h. any_got (λ (one : Schema). mentions name one.effect) domain.schemas i schema got h)
