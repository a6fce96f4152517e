-- What occurs in a part of a condition occurs in the condition.
use Rattle.std.proofs.Common.{◌≡◌, ℕ, ◌∙◌, ◌||◌, Bool, Vec, Box, Global, map, refl, ap}
use Rattle.std.specs.Prelude.{◌==◌, IsTrue}
use Rattle.std.specs.List.{list_any}
use Rattle.fond_ast.specs.Ranges.{RangeList}
use Rattle.fond_ast.specs.declared.form.LAtom.{LAtom}
use Rattle.fond_ast.specs.declared.form.LTerm.{LTerm}
use Rattle.fond_ast.specs.declared.form.LCond.{LCond, Holds, Equal, And', Or', Not', Imply', Forall', Exists', Row_of-LCond}
use Rattle.fond_ast.specs.declared.form.LCond.TheBlock.{items-the_row-LCond, items_shown-the_row-LCond-0}
use Rattle.fond_ast.specs.declared.form.LCond.TheOpen as open_condition
use Rattle.fond_ast.specs.declared.form.LCond.TheOpen.{LCond-F}
use Rattle.fond_ast.specs.declared.form.LCond.TheViews.{out-LCond, outs-Holds, outs-Equal, outs-And', outs-Or', outs-Not', outs-Imply', outs-Forall', outs-Exists'}
use Rattle.fond_ast.specs.declared.form.LCond.TheFolds.{fold-LCond, fold_out-LCond, map-LCond}
use Rattle.fond_ast.specs.Laws.{has_variable, has_variable_step, has_predicate, has_predicate_step}
use Rattle.fond_ast.specs.Patterns.{is_variable}
use Rattle.fond_ast.proofs.Bools.{or-left, or-right}

-- a fold into tests by the form of the condition
fold-at : (step : LCond-F Bool → Bool) (condition : LCond) (layer : LCond-F LCond) → out-LCond condition ≡ layer → fold-LCond Bool step condition ≡ step (map-LCond LCond Bool (fold-LCond Bool step) layer)
fold-at step condition layer e = fold_out-LCond Bool step condition ∙ ap (λ form. step (map-LCond LCond Bool (fold-LCond Bool step) form)) e

-- a test of a condition that asks whether some part passes
pub record IsSearch (step : LCond-F Bool → Bool) : Type 0 where
  pub at_and : (parts : Vec Bool Global) → step (open_condition.And parts) ≡ list_any (λ part. part) parts.items
  pub at_or : (parts : Vec Bool Global) → step (open_condition.Or parts) ≡ list_any (λ part. part) parts.items
  pub at_not : (part : Box Bool Global) → step (open_condition.Not part) ≡ part.value
  pub at_imply : (part other : Box Bool Global) → step (open_condition.Imply part other) ≡ (part.value || other.value)
  pub at_forall : (ranges : RangeList) (part : Box Bool Global) → step (open_condition.Forall ranges part) ≡ part.value
  pub at_exists : (ranges : RangeList) (part : Box Bool Global) → step (open_condition.Exists ranges part) ≡ part.value

module _ (step : LCond-F Bool → Bool) (search_of : IsSearch step) where
  abbrev passes : LCond → Bool
  passes = fold-LCond Bool step

  -- whether some condition of a row passes
  abbrev pub some_passes : {m : _} → Row_of-LCond m → Bool
  some_passes row = list_any (λ part. part) (map passes (items-the_row-LCond _ row))

  pub of-And' : (shape : _) (row : Row_of-LCond _) → IsTrue (some_passes row) → IsTrue (passes (And' shape row))
  of-And' shape row h =
      fold-at step _ _ (outs-And' shape row) ∙ search_of.at_and _ ∙ ap (λ parts. list_any (λ part. part) (map passes parts)) (items_shown-the_row-LCond-0 shape row) ∙ h

  pub of-Or' : (shape : _) (row : Row_of-LCond _) → IsTrue (some_passes row) → IsTrue (passes (Or' shape row))
  of-Or' shape row h =
      fold-at step _ _ (outs-Or' shape row) ∙ search_of.at_or _ ∙ ap (λ parts. list_any (λ part. part) (map passes parts)) (items_shown-the_row-LCond-0 shape row) ∙ h

  pub of-Not' : (shape : _) (part : LCond) → IsTrue (passes part) → IsTrue (passes (Not' shape part))
  of-Not' shape part h = fold-at step _ _ (outs-Not' shape part) ∙ search_of.at_not _ ∙ h

  pub of-Imply'-left : (shape : _) (part : LCond) (shape_of_other : _) (other : LCond) → IsTrue (passes part) → IsTrue (passes (Imply' shape part shape_of_other other))
  of-Imply'-left shape part shape_of_other other h = fold-at step _ _ (outs-Imply' shape part shape_of_other other) ∙ search_of.at_imply _ _ ∙ or-left _ _ h

  pub of-Imply'-right : (shape : _) (part : LCond) (shape_of_other : _) (other : LCond) → IsTrue (passes other) → IsTrue (passes (Imply' shape part shape_of_other other))
  of-Imply'-right shape part shape_of_other other h = fold-at step _ _ (outs-Imply' shape part shape_of_other other) ∙ search_of.at_imply _ _ ∙ or-right _ _ h

  pub of-Forall' : (ranges : RangeList) (shape : _) (part : LCond) → IsTrue (passes part) → IsTrue (passes (Forall' ranges shape part))
  of-Forall' ranges shape part h = fold-at step _ _ (outs-Forall' ranges shape part) ∙ search_of.at_forall _ _ ∙ h

  pub of-Exists' : (ranges : RangeList) (shape : _) (part : LCond) → IsTrue (passes part) → IsTrue (passes (Exists' ranges shape part))
  of-Exists' ranges shape part h = fold-at step _ _ (outs-Exists' ranges shape part) ∙ search_of.at_exists _ _ ∙ h

pub variables-search : (number : ℕ) → IsSearch (has_variable_step number)
variables-search number =
    record { at_and = λ parts. refl; at_or = λ parts. refl; at_not = λ part. refl; at_imply = λ part other. refl; at_forall = λ ranges part. refl; at_exists = λ ranges part. refl }

pub predicates-search : (number : ℕ) → IsSearch (has_predicate_step number)
predicates-search number =
    record { at_and = λ parts. refl; at_or = λ parts. refl; at_not = λ part. refl; at_imply = λ part other. refl; at_forall = λ ranges part. refl; at_exists = λ ranges part. refl }

pub variable-Holds : (number : ℕ) (atom : LAtom) → has_variable number (Holds atom) ≡ list_any (is_variable number) atom.terms
variable-Holds number atom = fold-at (has_variable_step number) _ _ (outs-Holds atom)

pub variable-Equal : (number : ℕ) (term other : LTerm) → has_variable number (Equal term other) ≡ (is_variable number term || is_variable number other)
variable-Equal number term other = fold-at (has_variable_step number) _ _ (outs-Equal term other)

pub predicate-Holds : (number : ℕ) (atom : LAtom) → has_predicate number (Holds atom) ≡ (atom.predicate == number)
predicate-Holds number atom = fold-at (has_predicate_step number) _ _ (outs-Holds atom)
