-- What the value of a condition tells of its truth, if the values of the atoms tell of theirs.
use Rattle.std.proofs.Common.{◌≡◌, ℕ, List, [], ◌∷◌, ◌++◌, Bool, true, false, not, ◌&&◌, ◌||◌, map, refl, sym, ap, ◌∙◌, subst}
use Rattle.std.specs.Prelude.{◌==◌, fold, if◌then◌else◌}
use Rattle.std.specs.List.{list_all, list_any}
use Rattle.std.specs.FinSet as set
use Rattle.fond_text.specs.declared.atom.Atom.{Atom}
use Rattle.fond_ast.specs.Ranges.{objects_of}
use Rattle.fond_ast.specs.declared.form.LCond.{LCond, Truth, Holds, Equal, And', Or', Not', Imply', Forall', Exists', Row_of-LCond, end_of-LCond, more_of-LCond}
use Rattle.fond_ast.specs.declared.form.LCond.TheBlock.{items-the_row-LCond, items_shown-the_row-LCond-0}
use Rattle.fond_ast.specs.declared.form.LCond.TheOpen.{LCond-F}
use Rattle.fond_ast.specs.declared.form.LCond.TheViews.{out-LCond, outs-Truth, outs-Holds, outs-Equal, outs-And', outs-Or', outs-Not', outs-Imply', outs-Forall', outs-Exists'}
use Rattle.fond_ast.specs.declared.form.LCond.TheFolds.{fold-LCond, fold_out-LCond, map-LCond}
use Rattle.fond_ast.specs.States.{State}
use Rattle.fond_ast.specs.Conditions.{object_of, ground_atom, tuples}
use Rattle.fond_ast.specs.Truths.{holds, holds_step}
use Rattle.fond_join.specs.Values.{condition_step, condition_value}
use Rattle.fond_task.specs.declared.form.Kleene.{Kleene}
use Rattle.fond_task.specs.declared.form.Kleene.TheVariants.{No, Unknown, Yes}
use Rattle.fond_task.specs.Values.{greater, greatest, least, lesser, opposite}
use Rattle.fond_task.proofs.Tells.{Tells, Tells-lesser, Tells-greater, and_assoc, or_assoc, or_none}

-- Yes for true, and No for false
abbrev pub known : Bool → Kleene
known truth = if truth then Yes else No

-- the connectives keep a relation between values and truth values
pub record IsKept (Fits : Kleene → Bool → Type 0) : Type 0 where
  pub sure : (truth : Bool) → Fits (known truth) truth
  pub at_lesser : (a b : Kleene) (x y : Bool) → Fits a x → Fits b y → Fits (lesser a b) (x && y)
  pub at_greater : (a b : Kleene) (x y : Bool) → Fits a x → Fits b y → Fits (greater a b) (x || y)
  pub at_opposite : (a : Kleene) (x : Bool) → Fits a x → Fits (opposite a) (not x)

abbrev pub IsKnown : Kleene → Bool → Type 0
IsKnown value truth = value ≡ known truth

known-lesser : (x y : Bool) → lesser (known x) (known y) ≡ known (x && y)
known-lesser true y = yes y
  where
    yes : (y : Bool) → lesser Yes (known y) ≡ known y
    yes true = refl
    yes false = refl
known-lesser false y = refl

known-greater : (x y : Bool) → greater (known x) (known y) ≡ known (x || y)
known-greater true y = refl
known-greater false true = refl
known-greater false false = refl

known-opposite : (x : Bool) → opposite (known x) ≡ known (not x)
known-opposite true = refl
known-opposite false = refl

-- the connectives keep that a value is Yes or No
pub known_kept : IsKept IsKnown
known_kept = record {
  sure = λ truth. refl;
  at_lesser = λ a b x y of_x of_y. ap (λ v. lesser v b) of_x ∙ ap (lesser (known x)) of_y ∙ known-lesser x y;
  at_greater = λ a b x y of_x of_y. ap (λ v. greater v b) of_x ∙ ap (greater (known x)) of_y ∙ known-greater x y;
  at_opposite = λ a x of_x. ap opposite of_x ∙ known-opposite x;
}

Tells-known : (truth : Bool) → Tells (known truth) truth
Tells-known true = refl
Tells-known false = refl

Tells-opposite : (a : Kleene) (x : Bool) → Tells a x → Tells (opposite a) (not x)
Tells-opposite No x tells = ap not tells
Tells-opposite Unknown x tells = tt
Tells-opposite Yes x tells = ap not tells

-- the connectives keep that a value agrees with a truth
pub tells_kept : IsKept Tells
tells_kept = record { sure = Tells-known; at_lesser = Tells-lesser; at_greater = Tells-greater; at_opposite = Tells-opposite }

module _ (Fits : Kleene → Bool → Type 0) (kept : IsKept Fits) where
  moved : (a : Kleene) (x y : Bool) → x ≡ y → Fits a x → Fits a y
  moved a x y same fits = subst (Fits a) same fits

  and_all : (x : Bool) → x ≡ (x && true)
  and_all true = refl
  and_all false = refl

  module _ {X : Type 0} (value : X → Kleene) (truth : X → Bool) (each : (x : X) → Fits (value x) (truth x)) where
    least_from : (xs : List X) (a : Kleene) (x : Bool) → Fits a x → Fits (fold lesser a (map value xs)) (x && list_all truth xs)
    least_from [] a x fits = moved a x (x && true) (and_all x) fits
    least_from (one ∷ xs) a x fits = moved _ _ _ (and_assoc x (truth one) (list_all truth xs)) (least_from xs (lesser a (value one)) (x && truth one) (kept.at_lesser a (value one) x (truth one) fits (each one)))

    greatest_from : (xs : List X) (a : Kleene) (x : Bool) → Fits a x → Fits (fold greater a (map value xs)) (x || list_any truth xs)
    greatest_from [] a x fits = moved a x (x || false) (or_none x) fits
    greatest_from (one ∷ xs) a x fits = moved _ _ _ (or_assoc x (truth one) (list_any truth xs)) (greatest_from xs (greater a (value one)) (x || truth one) (kept.at_greater a (value one) x (truth one) fits (each one)))

    -- the least of some values fits the truth of all items, and the greatest that of some item
    pub least_fits : (xs : List X) → Fits (least (map value xs)) (list_all truth xs)
    least_fits xs = least_from xs Yes true (kept.sure true)

    pub greatest_fits : (xs : List X) → Fits (greatest (map value xs)) (list_any truth xs)
    greatest_fits xs = greatest_from xs No false (kept.sure false)

  module _ (known_of : Atom → Kleene) (state : State) (each : (atom : Atom) → Fits (known_of atom) (set.contains state atom)) where
    abbrev tests : LCond → List ℕ → Bool
    tests = fold-LCond (List ℕ → Bool) (holds_step state)

    abbrev values : LCond → List ℕ → Kleene
    values = fold-LCond (List ℕ → Kleene) (condition_step known_of)

    -- the value of a condition fits its truth if those of its layer do
    by_layer : (env : List ℕ) (condition : LCond) (layer : LCond-F LCond) → out-LCond condition ≡ layer
        → Fits (condition_step known_of (map-LCond LCond (List ℕ → Kleene) values layer) env) (holds_step state (map-LCond LCond (List ℕ → Bool) tests layer) env) → Fits (condition_value known_of env condition) (holds state env condition)
    by_layer env condition layer is fits =
        let value_is : condition_value known_of env condition ≡ condition_step known_of (map-LCond LCond (List ℕ → Kleene) values layer) env =
        ap (λ value. value env) (fold_out-LCond (List ℕ → Kleene) (condition_step known_of) condition) ∙ ap (λ form. condition_step known_of (map-LCond LCond (List ℕ → Kleene) values form) env) is in
        let truth_is : holds state env condition ≡ holds_step state (map-LCond LCond (List ℕ → Bool) tests layer) env =
        ap (λ test. test env) (fold_out-LCond (List ℕ → Bool) (holds_step state) condition) ∙ ap (λ form. holds_step state (map-LCond LCond (List ℕ → Bool) tests form) env) is in
        subst (λ v. Fits v (holds state env condition)) (sym value_is) (subst (Fits (condition_step known_of (map-LCond LCond (List ℕ → Kleene) values layer) env)) (sym truth_is) fits)

    mutual
      -- the value of a condition fits its truth, if the value of each atom does
      pub condition_fits : (condition : LCond) (env : List ℕ) → Fits (condition_value known_of env condition) (holds state env condition)
      condition_fits Truth env = by_layer env _ _ outs-Truth (kept.sure true)
      condition_fits (Holds atom) env = by_layer env _ _ (outs-Holds atom) (each (ground_atom env atom))
      condition_fits (Equal term other) env = by_layer env _ _ (outs-Equal term other) (kept.sure (object_of env term == object_of env other))
      condition_fits (And' shape row) env = by_layer env _ _ (outs-And' shape row)
          (subst (λ parts. Fits (least (map (λ part. part env) (map values parts))) (list_all (λ part. part env) (map tests parts))) (sym (items_shown-the_row-LCond-0 shape row)) (row_least row env Yes true (kept.sure true)))
      condition_fits (Or' shape row) env = by_layer env _ _ (outs-Or' shape row)
          (subst (λ parts. Fits (greatest (map (λ part. part env) (map values parts))) (list_any (λ part. part env) (map tests parts))) (sym (items_shown-the_row-LCond-0 shape row)) (row_greatest row env No false (kept.sure false)))
      condition_fits (Not' shape part) env = by_layer env _ _ (outs-Not' shape part) (kept.at_opposite _ _ (condition_fits part env))
      condition_fits (Imply' shape part shape_of_other other) env =
          by_layer env _ _ (outs-Imply' shape part shape_of_other other) (kept.at_greater _ _ _ _ (kept.at_opposite _ _ (condition_fits part env)) (condition_fits other env))
      condition_fits (Forall' ranges shape part) env = by_layer env _ _ (outs-Forall' ranges shape part)
          (least_fits (λ objects. condition_value known_of (env ++ objects) part) (λ objects. holds state (env ++ objects) part) (λ objects. condition_fits part (env ++ objects)) (tuples (objects_of ranges)))
      condition_fits (Exists' ranges shape part) env = by_layer env _ _ (outs-Exists' ranges shape part)
          (greatest_fits (λ objects. condition_value known_of (env ++ objects) part) (λ objects. holds state (env ++ objects) part) (λ objects. condition_fits part (env ++ objects)) (tuples (objects_of ranges)))

      row_least : {m : _} (row : Row_of-LCond m) (env : List ℕ) (a : Kleene) (x : Bool) → Fits a x
          → Fits (fold lesser a (map (λ part. part env) (map values (items-the_row-LCond _ row)))) (x && list_all (λ part. part env) (map tests (items-the_row-LCond _ row)))
      row_least end_of-LCond env a x fits = moved a x (x && true) (and_all x) fits
      row_least (more_of-LCond part rest) env a x fits =
          moved _ _ _ (and_assoc x (holds state env part) _) (row_least rest env (lesser a (condition_value known_of env part)) (x && holds state env part) (kept.at_lesser a _ x _ fits (condition_fits part env)))

      row_greatest : {m : _} (row : Row_of-LCond m) (env : List ℕ) (a : Kleene) (x : Bool) → Fits a x
          → Fits (fold greater a (map (λ part. part env) (map values (items-the_row-LCond _ row)))) (x || list_any (λ part. part env) (map tests (items-the_row-LCond _ row)))
      row_greatest end_of-LCond env a x fits = moved a x (x || false) (or_none x) fits
      row_greatest (more_of-LCond part rest) env a x fits =
          moved _ _ _ (or_assoc x (holds state env part) _) (row_greatest rest env (greater a (condition_value known_of env part)) (x || holds state env part) (kept.at_greater a _ x _ fits (condition_fits part env)))
