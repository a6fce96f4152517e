-- The first item that passes a test, by its position.
use Rattle.std.proofs.Common.{◌≡◌, ℕ, ◌≤◌, Bool, true, false, List, Some, None, length, slice_get, position, find, cond, ltb, refl, sym, ap, ◌∙◌, arith}
use Rattle.std.specs.List.{position_or_len}
use Rattle.std.proofs.lemmas.Bool.Decides.{nat_tests}
use Rattle.std.proofs.lemmas.List.Folds.{find_at}
use Rattle.std.proofs.lemmas.Option.{slice_get_past}

position_is : (b : Bool) (n at : ℕ) → cond b (Some n) None ≡ Some at → n ≡ at
position_is true n at e = cc
position_is false n at e = cc

position_none : (n count : ℕ) (b : Bool) → ltb n count ≡ b → cond b (Some n) None ≡ None → count ≤ n
position_none n count true e none = cc
position_none n count false e none = grind (arith, nat_tests)

module _ {X : Type 0} (p : X → Bool) (xs : List X) where
  -- the item at the first position is the first item
  pub found_at : (at : ℕ) (x : X) → position p xs ≡ Some at → slice_get xs at ≡ Some x → Some x ≡ find p xs
  found_at at x is got =
      sym got ∙ ap (slice_get xs) (sym (position_is (ltb (position_or_len p xs) (length xs)) (position_or_len p xs) at is)) ∙ sym (find_at p xs)

  -- without a first position no item passes
  pub found_none : position p xs ≡ None → None ≡ find p xs
  found_none none =
      sym (slice_get_past xs (position_or_len p xs) (position_none (position_or_len p xs) (length xs) (ltb (position_or_len p xs) (length xs)) refl none)) ∙ sym (find_at p xs)
