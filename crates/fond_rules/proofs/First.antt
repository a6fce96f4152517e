-- The first element of a list that passes a test, by its index and as the element.
use Rattle.std.proofs.Common.{◌≡◌, ℕ, List, Bool, true, false, Some, None, length, cond, slice_get, refl, sym, ◌∙◌, arith}
use Rattle.std.specs.Prelude.{option_and_then, position, find, nat_lt}
use Rattle.std.specs.List.{position_or_len}
use Rattle.std.proofs.lemmas.List.Folds.{find_at}
use Rattle.std.proofs.lemmas.Option.{slice_get_past}
use Rattle.std.proofs.lemmas.Bool.Decides.{nat_tests}

module _ {X : Type 0} (test : X → Bool) (xs : List X) where
  -- the element at the index of the first that passes is the first that passes
  found_from : (b : Bool) (n : ℕ) → nat_lt n (length xs) ≡ b → option_and_then (λ number. slice_get xs number) (cond b (Some n) None) ≡ slice_get xs n
  found_from true n is = refl
  found_from false n is = sym (slice_get_past xs n (grind (arith, nat_tests)))

  pub found_first : option_and_then (λ number. slice_get xs number) (position test xs) ≡ find test xs
  found_first = found_from _ (position_or_len test xs) refl ∙ sym (find_at test xs)
