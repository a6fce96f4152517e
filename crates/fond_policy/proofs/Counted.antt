-- Lists of distinct elements, and the numbers of states that a policy reaches.
use Rattle.std.proofs.Common.{inl, inr, ◌≡◌, ℕ, zero, suc, ◌+◌, ◌<◌, ◌≤◌, List, [], ◌∷◌, ◌++◌, Some, length, take, drop, slice_get, sym, ap, ◌∙◌, subst, ⊎_elim, arith}
use Rattle.std.specs.Prelude.{◌⊎◌, Contains}
use Rattle.std.proofs.lemmas.List.{length-append}
use Rattle.std.proofs.lemmas.List.Elements.{Contains-append_left, Contains-append_right, Contains-append_cases}
use Rattle.std.proofs.lemmas.Option.{none-some, same_Some}
use Rattle.fond_text.specs.Lists.{AreDistinct}
use Rattle.fond_task.specs.declared.task.Task.{Task}
use Rattle.fond_task.specs.Policies.{Policy}
use Rattle.fond_task.specs.Certificates.{ReachesCount}
use Rattle.fond_task.proofs.Lists.{Contains-cases, Contains-here, Contains-later, number_of}
use Rattle.fond_policy.specs.Counts.{ReachesMore}

module _ {X : Type 0} where
  -- a list is what comes before an element, the element, and what comes after it
  pub split_at : (xs : List X) (i : ℕ) (x : X) → slice_get xs i ≡ Some x → xs ≡ take i xs ++ x ∷ drop (suc i) xs
  split_at [] i x is = absurd (none-some x is)
  split_at (y ∷ ys) zero x is = ap (λ z. z ∷ ys) (same_Some y x is)
  split_at (y ∷ ys) (suc i) x is = ap (λ zs. y ∷ zs) (split_at ys i x is)

  -- what is in a list and is not this element is in the list without it
  pub without : (front back : List X) (x y : X) → Contains (front ++ x ∷ back) y → (x ≡ y) ⊎ Contains (front ++ back) y
  without front back x y has = ⊎_elim
      (λ left. inr (Contains-append_left front back y left))
      (λ right. ⊎_elim (λ same. inl same) (λ later. inr (Contains-append_right front back y later)) (Contains-cases y x back right))
      (Contains-append_cases front (x ∷ back) y has)

  -- distinct elements of a list are no more than it has
  pub no_more : (xs ys : List X) → AreDistinct xs → ((x : X) → Contains xs x → Contains ys x) → length xs ≤ length ys
  no_more [] ys distinct each = omega arith
  no_more (x ∷ xs) ys distinct each =
      let at = number_of ys x (each x (Contains-here x xs)) in
      let front = take at.0 ys in
      let back = drop (suc at.0) ys in
      let split : ys ≡ front ++ x ∷ back = split_at ys at.0 x at.1 in
      let rest : length xs ≤ length (front ++ back) = no_more xs (front ++ back) distinct.1 (λ y has. ⊎_elim
      (λ same. absurd (distinct.0 (subst (λ (z : X). Contains xs z) (sym same) has)))
      (λ other. other)
      (without front back x y (subst (λ (zs : List X). Contains zs y) split (each y (Contains-later y x xs has))))) in
      let whole : length ys ≡ length front + suc (length back) = ap length split ∙ length-append front (x ∷ back) in
      let parts : length (front ++ back) ≡ length front + length back = length-append front back in
      omega (arith, rest, whole, parts)

-- if more than a bound are reached, their number is larger
pub more_counted : (task : Task) (policy : Policy) (bound count : ℕ) → ReachesMore task policy bound → ReachesCount task policy count → bound < count
more_counted task policy bound count more counted =
    let fits = no_more more.states counted.states more.once (λ state has. counted.all state (more.reached state has)) in
    omega (arith, fits, more.longer, counted.counted)

-- a policy reaches one number of states
pub counted_once : (task : Task) (policy : Policy) (one other : ℕ) → ReachesCount task policy one → ReachesCount task policy other → one ≤ other
counted_once task policy one other first second =
    let fits = no_more first.states second.states first.once (λ state has. second.all state (first.reached state has)) in
    omega (arith, fits, first.counted, second.counted)
