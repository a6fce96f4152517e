-- A falling sequence of tests comes to a stage from which no member of a list falls.
use Rattle.std.proofs.Common.{⊎_elim, ◌≡◌, ℕ, zero, suc, ◌<◌, ◌≤◌, List, Bool, true, false, arith}
use Rattle.std.specs.Prelude.{◌&&◌, Contains, not}
use Rattle.std.proofs.lemmas.Bool.{cases_Bool}
use Rattle.fond_games.proofs.Lists.{search_list, number_passing, fewer_still, and_left, and_right, and_both, both_ways, not_true, not_false}

module _ {X : Type 0} (holds : ℕ → X → Bool) (falls : (k : ℕ) (x : X) → holds (suc k) x ≡ true → holds k x ≡ true) (xs : List X) where
  -- what falls is at this stage, and not at the next
  abbrev drops : ℕ → X → Bool
  drops k x = holds k x && not (holds (suc k) x)

  -- a stage from which no member falls
  abbrev pub IsStable : ℕ → Type 0
  IsStable k = (x : X) → Contains xs x → holds k x ≡ true → holds (suc k) x ≡ true

  all_stay : (k : ℕ) → ((y : X) → Contains xs y → drops k y ≡ false) → IsStable k
  all_stay k none x has is = ⊎_elim (λ stays. stays) (λ lost. absurd (both_ways (drops k x) (and_both (holds k x) (not (holds (suc k) x)) is (not_false (holds (suc k) x) lost)) (none x has))) (cases_Bool (holds (suc k) x))

  one_less : (k : ℕ) (y : X) → Contains xs y → drops k y ≡ true → number_passing (holds (suc k)) xs < number_passing (holds k) xs
  one_less k y has is =
      fewer_still (holds (suc k)) (holds k) xs (λ z there. falls k z) y has (not_true (holds (suc k) y) (and_right (holds k y) (not (holds (suc k) y)) is)) (and_left (holds k y) (not (holds (suc k) y)) is)

  stable_by : (bound k : ℕ) → number_passing (holds k) xs ≤ bound → (stage : ℕ) × IsStable stage
  stable_by zero k few = ⊎_elim
      (λ found. absurd (omega (arith, few, one_less k found.0 found.1 found.2)))
      (λ none. (k, all_stay k none))
      (search_list (drops k) xs)
  stable_by (suc bound) k few = ⊎_elim
      (λ found. stable_by bound (suc k) (omega (arith, few, one_less k found.0 found.1 found.2)))
      (λ none. (k, all_stay k none))
      (search_list (drops k) xs)

  -- some stage is stable
  pub stable : (stage : ℕ) × IsStable stage
  stable = stable_by (number_passing (holds zero) xs) zero (omega arith)
