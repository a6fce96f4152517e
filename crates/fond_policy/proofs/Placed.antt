-- Items of which one has another cube.
use Rattle.std.proofs.Common.{◌≡◌, ℕ, zero, suc, ◌<◌, List, [], ◌∷◌, Bool, Some, length, set, refl, sym, ap, ◌∙◌, subst, ⊎_elim, Decides, arith}
use Rattle.std.specs.Prelude.{slice_get, slice_set}
use Rattle.std.proofs.lemmas.Bool.{cases_eq}
use Rattle.std.proofs.lemmas.Option.{none-some, same_Some}
use Rattle.fond_state.specs.Cubes.{CubeLiesIn, without_literal}
use Rattle.fond_task.specs.declared.task.Task.{Task}
use Rattle.fond_task.specs.Layers.{CubeView}
use Rattle.fond_policy.specs.declared.item.Item.{Item}
use Rattle.fond_policy.specs.Items.{First, AreItemsOver, IsSureWay, LiesInItem, dropped, with_cube}
use Rattle.fond_policy.specs.Altered.{altered}

-- the element of a number that is small enough
pub there : {X : Type 0} (xs : List X) (i : ℕ) → i < length xs → (x : X) × (slice_get xs i ≡ Some x)
there [] i within = absurd (omega (arith, within))
there (x ∷ xs) zero within = (x, refl)
there (x ∷ xs) (suc i) within = there xs i (omega (arith, within))

-- what a list has after one of its elements was replaced
pub got_same : {X : Type 0} (xs : List X) (i : ℕ) (x y : X) → slice_get xs i ≡ Some x → slice_get (set xs i y) i ≡ Some y
got_same [] i x y is = absurd (none-some x is)
got_same (z ∷ xs) zero x y is = refl
got_same (z ∷ xs) (suc i) x y is = got_same xs i x y is

pub got_other : {X : Type 0} (xs : List X) (i k : ℕ) (y : X) → ¬ k ≡ i → slice_get (set xs i y) k ≡ slice_get xs k
got_other [] i k y other = refl
got_other (z ∷ xs) zero zero y other = absurd (other refl)
got_other (z ∷ xs) zero (suc k) y other = refl
got_other (z ∷ xs) (suc i) zero y other = refl
got_other (z ∷ xs) (suc i) (suc k) y other = got_other xs i k y (λ is. other (ap suc is))

pub altered_set : (items : List Item) (at : ℕ) (item : Item) (cube : CubeView) → slice_get items at ≡ Some item → altered items at cube ≡ slice_set items at (with_cube item cube)
altered_set [] at item cube is = absurd (none-some item is)
altered_set (one ∷ items) zero item cube is = ap (λ (i : Item). with_cube i cube ∷ items) (same_Some one item is)
altered_set (one ∷ items) (suc at) item cube is = ap (λ is. one ∷ is) (altered_set items at item cube is)

-- with its own cube an item is the same
pub altered_own : (items : List Item) (at : ℕ) (item : Item) → slice_get items at ≡ Some item → altered items at item.cube ≡ items
altered_own [] at item is = absurd (none-some item is)
altered_own (one ∷ items) zero item is = ap (λ (i : Item). with_cube one i.cube ∷ items) (sym (same_Some one item is))
altered_own (one ∷ items) (suc at) item is = ap (λ is. one ∷ is) (altered_own items at item is)

-- the items of a list of which one has another cube
pub altered_same : (items : List Item) (at : ℕ) (cube : CubeView) (item : Item) → slice_get (altered items at cube) at ≡ Some item → item.cube ≡ cube
altered_same [] at cube item is = absurd (none-some item is)
altered_same (one ∷ items) zero cube item is = ap (λ (i : Item). i.cube) (sym (same_Some (with_cube one cube) item is))
altered_same (one ∷ items) (suc at) cube item is = altered_same items at cube item is

pub altered_here : (items : List Item) (at : ℕ) (cube : CubeView) (item : Item) → slice_get items at ≡ Some item → slice_get (altered items at cube) at ≡ Some (with_cube item cube)
altered_here [] at cube item is = absurd (none-some item is)
altered_here (one ∷ items) zero cube item is = ap (λ (i : Item). Some (with_cube i cube)) (same_Some one item is)
altered_here (one ∷ items) (suc at) cube item is = altered_here items at cube item is

pub altered_other : (items : List Item) (at number : ℕ) (cube : CubeView) → ¬ number ≡ at → slice_get (altered items at cube) number ≡ slice_get items number
altered_other [] at number cube other = refl
altered_other (one ∷ items) zero zero cube other = absurd (other refl)
altered_other (one ∷ items) zero (suc number) cube other = refl
altered_other (one ∷ items) (suc at) zero cube other = refl
altered_other (one ∷ items) (suc at) (suc number) cube other = altered_other items at number cube (λ is. other (ap suc is))

pub length-altered : (items : List Item) (at : ℕ) (cube : CubeView) → length (altered items at cube) ≡ length items
length-altered [] at cube = refl
length-altered (one ∷ items) zero cube = refl
length-altered (one ∷ items) (suc at) cube = ap suc (length-altered items at cube)

pub altered_over : (items : List Item) (at : ℕ) (cube : CubeView) (atoms : ℕ) → AreItemsOver atoms items → length cube ≡ atoms → AreItemsOver atoms (altered items at cube)
altered_over items at cube atoms over long number item is = ⊎_elim
    (λ same. ap length (altered_same items at cube item (ap (slice_get (altered items at cube)) (sym same) ∙ is)) ∙ long)
    (λ differs. over number item (sym (altered_other items at number cube differs) ∙ is))
    (cases_eq number at)

-- a cube lies in an item if it lies in its cube
pub lies_by : (items : List Item) (cube : CubeView) (number : ℕ) (item : Item) (b : Bool) → slice_get items number ≡ Some item → Decides b (CubeLiesIn cube item.cube) → Decides b (LiesInItem items cube number)
lies_by items cube number item b is told = (
  λ e. record { item = item; numbered = is; lies = told.0 e },
  λ into. told.1 (subst (λ (i : Item). CubeLiesIn cube i.cube) (same_Some into.item item (sym into.numbered ∙ is)) into.lies),
)

module _ (items others : List Item) (at number : ℕ) (own : CubeView) (is : altered items at own ≡ others) where
  -- the item that has the other cube
  pub own_there : number < length items → number ≡ at → (item : Item) × (slice_get others number ≡ Some (with_cube item own))
  own_there within same =
      let item = there items number within in
      (item.0, ap (λ xs. slice_get xs number) (sym is) ∙ ap (slice_get (altered items at own)) same ∙ altered_here items at own item.0 (ap (slice_get items) (sym same) ∙ item.1))

  -- an item that has its own cube
  pub other_there : (item : Item) → ¬ number ≡ at → slice_get items number ≡ Some item → slice_get others number ≡ Some item
  other_there item differs has = ap (λ xs. slice_get xs number) (sym is) ∙ altered_other items at number own differs ∙ has

module _ (task : Task) (firsts : List First) (items : List Item) (at : ℕ) (item : Item) (has : slice_get items at ≡ Some item) (atom : ℕ) (cube : CubeView) (is : cube ≡ without_literal item.cube atom) where
  abbrev With : CubeView → Type 0
  With cube = IsSureWay task firsts (altered items at cube) cube item.way

  abbrev Among : List Item → Type 0
  Among others = IsSureWay task firsts others (without_literal item.cube atom) item.way

  -- an item is sure with the cube that lacks a literal if it is sure after it lost the literal
  pub sure_with : Among (dropped items at item atom) → With cube
  sure_with sure = subst With (sym is) (subst Among (sym (altered_set items at item (without_literal item.cube atom) has)) sure)

  pub sure_without : With cube → Among (dropped items at item atom)
  sure_without sure = subst Among (altered_set items at item (without_literal item.cube atom) has) (subst With is sure)
