-- Whether a cube contradicts the first conditions of a list, by a matrix of them.
use Rattle.std.proofs.Common.{◌≡◌, ℕ, zero, suc, ◌<◌, ◌≤◌, List, [], ◌∷◌, ◌++◌, Bool, true, false, not, Option, Some, None, length, take, refl, sym, ap, ◌∙◌, subst, ⊎_elim, arith}
use Rattle.std.specs.Prelude.{slice_get, position, is_some}
use Rattle.std.specs.Bool.{Decides}
use Rattle.std.proofs.lemmas.Bool.{false≢true, false_from_ne_true, cases_lt}
use Rattle.std.proofs.lemmas.List.{length-take, length_push}
use Rattle.std.proofs.lemmas.Option.{none-some, same_Some, slice_get_within}
use Rattle.fond_state.specs.Cubes.{Contradicts}
use Rattle.fond_match.specs.Besides.{is_beside, is_beside-Decides}
use Rattle.fond_task.specs.Layers.{CubeView}
use Rattle.fond_policy.specs.Items.{First, IsApart}
use Rattle.fond_policy.specs.Firsts.{AreFirstConditions}
use Rattle.fond_policy.proofs.Beside.{has_first, found_item, contradicts_by}

item_taken : {X : Type 0} (xs : List X) (n k : ℕ) → k < n → slice_get (take n xs) k ≡ slice_get xs k
item_taken xs zero k lt = absurd (omega (arith, lt))
item_taken [] (suc n) k lt = refl
item_taken (x ∷ xs) (suc n) zero lt = refl
item_taken (x ∷ xs) (suc n) (suc k) lt = item_taken xs n k (omega (arith, lt))

item_before : {X : Type 0} (xs : List X) (y : X) (k : ℕ) → k < length xs → slice_get (xs ++ y ∷ []) k ≡ slice_get xs k
item_before [] y k lt = absurd (omega (arith, lt))
item_before (x ∷ xs) y zero lt = refl
item_before (x ∷ xs) y (suc k) lt = item_before xs y k (omega (arith, lt))

item_last : {X : Type 0} (xs : List X) (y : X) → slice_get (xs ++ y ∷ []) (length xs) ≡ Some y
item_last [] y = refl
item_last (x ∷ xs) y = item_last xs y

module _ (cubes : List CubeView) (firsts : List First) (told : AreFirstConditions cubes firsts) where
  -- one further condition
  pub first_more : (first : First) → slice_get firsts (length cubes) ≡ Some first → AreFirstConditions (cubes ++ first.cond ∷ []) firsts
  first_more first is number lt = ⊎_elim
      (λ below. let own = told number below in (own.0, own.1, item_before cubes first.cond number below ∙ own.2))
      (λ past.
      let last : length cubes ≡ number = omega (arith, lt, past, length_push cubes first.cond) in
      (first, sym (ap (slice_get firsts) last) ∙ is, sym (ap (slice_get (cubes ++ first.cond ∷ [])) last) ∙ item_last cubes first.cond))
      (cases_lt number (length cubes))

  module _ (cube : CubeView) (number : ℕ) (few : number ≤ length cubes) where
    -- if no cube before a number is beside it, a cube contradicts each condition before the number
    pub none_apart : position (is_beside cube) (take number cubes) ≡ None → IsApart firsts number cube
    none_apart none before other lt at =
        let own = told before (omega (arith, lt, few)) in
        let there = item_taken cubes number before lt ∙ own.2 in
        let fails = false_from_ne_true (is_beside cube own.0.cond) (λ passes. none-some _ (sym none ∙ has_first (is_beside cube) (take number cubes) before own.0.cond there passes)) in
        subst (λ (f : First). Contradicts cube f.cond) (same_Some own.0 other (sym own.1 ∙ at)) (contradicts_by cube own.0.cond fails)

    -- and the other way round
    pub apart_none : IsApart firsts number cube → position (is_beside cube) (take number cubes) ≡ None
    apart_none apart = by (position (is_beside cube) (take number cubes)) refl
      where
        by : (o : Option ℕ) → position (is_beside cube) (take number cubes) ≡ o → o ≡ None
        by None is = refl
        by (Some at) is =
            let found = found_item (is_beside cube) (take number cubes) at is in
            let within = slice_get_within (take number cubes) at found.0 found.1 in
            let small : at < number = omega (arith, within, length-take number cubes) in
            let own = told at (omega (arith, small, few)) in
            let same : found.0 ≡ own.0.cond = same_Some found.0 own.0.cond (sym found.1 ∙ item_taken cubes number at small ∙ own.2) in
            absurd ((is_beside-Decides cube own.0.cond).0 (sym (ap (is_beside cube) same) ∙ found.2) (apart at own.0 small own.1))

    -- as it is tested
    pub apart_decided : (b : Bool) (o : Option ℕ) → o ≡ position (is_beside cube) (take number cubes) → is_some o ≡ not b → Decides b (IsApart firsts number cube)
    apart_decided true None is told = (λ _. none_apart (sym is), λ _. refl)
    apart_decided false None is told = absurd (false≢true told)
    apart_decided true (Some at) is told = absurd (false≢true (sym told))
    apart_decided false (Some at) is told = (λ e. absurd (false≢true e), λ apart. absurd (none-some at (sym (apart_none apart) ∙ sym is)))
