-- The texts of findings: states by their numbers, and by themselves.
use Rattle.std.proofs.Common.{◌≡◌, ◌<◌, ◌≤◌, ◌+◌, ◌-◌, ◌++◌, ℕ, zero, suc, List, [], ◌∷◌, Bool, Option, Some, length, drop, slice_get, refl, sym, ap, ◌∙◌, subst, arith}
use Rattle.std.proofs.lemmas.Option.{none-some, same_Some}
use Rattle.std.proofs.lemmas.Bool.{lt-ltb, le-ltb}
use Rattle.std.specs.Fmt.{decimal}
use Rattle.std.specs.Option.{option_map_or}
use Rattle.std.specs.Prelude.{codes, if◌then◌else◌}
use Rattle.fond_task.specs.declared.task.Task.{Task}
use Rattle.fond_task.specs.Texts.{state_text}
use Rattle.fond_lasso.specs.Listing.{level_text, levels_text, numbered_text}

levels_next : (task : Task) (states : List (List Bool)) (levels : List ℕ) (i : ℕ) (state : List Bool) (level : ℕ) → slice_get states i ≡ Some state → slice_get levels i ≡ Some level
    → levels_text task (drop i states) (drop i levels) ≡ level_text task state level ++ levels_text task (drop (suc i) states) (drop (suc i) levels)
levels_next task [] levels i state level at also = absurd (none-some state at)
levels_next task (s ∷ states) [] i state level at also = absurd (none-some level also)
levels_next task (s ∷ states) (l ∷ levels) zero state level at also =
    ap (λ (one : List Bool). level_text task one l ++ levels_text task states levels) (same_Some s state at) ∙ ap (λ (n : ℕ). level_text task state n ++ levels_text task states levels) (same_Some l level also)
levels_next task (s ∷ states) (l ∷ levels) (suc i) state level at also = levels_next task states levels i state level at also

-- one state more with its level
pub levels_more : (task : Task) (states : List (List Bool)) (levels : List ℕ) (i : ℕ) (state : List Bool) (level : ℕ) → slice_get states i ≡ Some state → slice_get levels i ≡ Some level
    → levels_text task (drop i states) (drop i levels) ≡ level_text task state level ++ levels_text task (drop (i + 1) states) (drop (i + 1) levels)
levels_more task states levels i state level at also =
    let next : suc i ≡ i + 1 = omega arith in
    subst (λ n. levels_text task (drop i states) (drop i levels) ≡ level_text task state level ++ levels_text task (drop n states) (drop n levels)) next (levels_next task states levels i state level at also)

-- no states are left
pub levels_over : (task : Task) (states : List (List Bool)) (levels : List ℕ) (i : ℕ) → length states ≤ i → levels_text task (drop i states) (drop i levels) ≡ []
levels_over task [] levels zero over = refl
levels_over task [] levels (suc i) over = refl
levels_over task (s ∷ states) levels zero over = absurd (omega (arith, over))
levels_over task (s ∷ states) [] (suc i) over = nothing (drop i states)
  where
    nothing : (left : List (List Bool)) → levels_text task left [] ≡ []
    nothing [] = refl
    nothing (t ∷ left) = refl
levels_over task (s ∷ states) (l ∷ levels) (suc i) over = levels_over task states levels i (omega (arith, over))

-- the text of a state by its number
pub numbered_is : (task : Task) (states : List (List Bool)) (number : ℕ) (state : List Bool) → slice_get states number ≡ Some state → state_text task state ≡ numbered_text task states number
numbered_is task states number state at = ap (λ (found : Option (List Bool)). option_map_or (state_text task) found []) (sym at)

-- the text of a state with a level above 1
pub level_is : (task : Task) (state : List Bool) (level : ℕ) → 1 < level → codes "rank " ++ decimal (level - 1) ++ codes "\n" ++ state_text task state ≡ level_text task state level
level_is task state level more = ap (λ (b : Bool). if b then codes "rank " ++ decimal (level - 1) ++ codes "\n" ++ state_text task state else []) (sym (lt-ltb 1 level more))

-- a state with a level of at most 1 has no text
pub level_none : (task : Task) (state : List Bool) (level : ℕ) → level ≤ 1 → [] ≡ level_text task state level
level_none task state level few = ap (λ (b : Bool). if b then codes "rank " ++ decimal (level - 1) ++ codes "\n" ++ state_text task state else []) (sym (le-ltb 1 level few))
