-- The first item of a list that passes a test, and the action that it chooses.
use Rattle.std.proofs.Common.{◌≡◌, ◌∙◌, ℕ, List, Bool, Some, None, slice_get, sym, ap, subst}
use Rattle.std.specs.Prelude.{All, find, option_and_then, option_map, position}
use Rattle.std.proofs.lemmas.Option.{get_or_from_slice_get, slice_get_within}
use Rattle.fond_rules.proofs.First.{found_first}

module _ {X : Type 0} (items : List X) where
  -- what holds of all items holds of each
  pub holds_at : (P : X → Type 0) (i : ℕ) (x : X) → All P items → slice_get items i ≡ Some x → P x
  holds_at P i x all is = subst P (get_or_from_slice_get items i x x is) (all i x (slice_get_within items i x is))

  module _ (test : X → Bool) (act : X → ℕ) where
    -- the action of the first item that passes is chosen
    pub first_act : (i : ℕ) (x : X) → position test items ≡ Some i → slice_get items i ≡ Some x → option_map act (find test items) ≡ Some (act x)
    first_act i x is at =
        sym (ap (option_map act) (found_first test items))
        ∙ ap (λ o. option_map act (option_and_then (λ number. slice_get items number) o)) is
        ∙ ap (option_map act) at

    -- if no item passes, no action is chosen
    pub no_act : position test items ≡ None → option_map act (find test items) ≡ None
    no_act is = sym (ap (option_map act) (found_first test items)) ∙ ap (λ o. option_map act (option_and_then (λ number. slice_get items number) o)) is
