-- The first rule whose condition a cube does not contradict.
use Rattle.std.proofs.Common.{◌≡◌, ℕ, zero, suc, ◌+◌, ◌<◌, ◌≤◌, List, [], ◌∷◌, Bool, true, false, not, cond, Option, Some, None, length, get_or, refl, sym, ap, ◌∙◌, subst, ⊎_elim, arith}
use Rattle.std.specs.Prelude.{◌&&◌, slice_get}
use Rattle.std.specs.List.{position, position_or_len}
use Rattle.std.proofs.lemmas.Bool.{false≢true, false_from_ne_true, cases_lt, cond-true, cond-false, lt-ltb}
use Rattle.std.proofs.lemmas.List.Quantifiers.{position-Some}
use Rattle.std.proofs.lemmas.Option.{none-some, same_Some, slice_get_within, slice_get-get_or, get_or_from_slice_get}
use Rattle.fond_state.specs.Cubes.{Contradicts}
use Rattle.fond_match.specs.Besides.{permits, is_beside, is_beside-Decides}
use Rattle.fond_task.specs.declared.rule.Rule.{Rule}
use Rattle.fond_task.specs.Layers.{CubeView}
use Rattle.fond_rules.specs.Select.{AreOver}
use Rattle.fond_policy.specs.Items.{First, firsts_of, first_of, AreFirstsOver, IsApart}
use Rattle.fond_policy.proofs.Ruled.{first_at, rule_of}

module _ {X : Type 0} (test : X → Bool) where
  -- an item that passes is no earlier than the first one that does
  pub first_no_later : (xs : List X) (k : ℕ) (x : X) → slice_get xs k ≡ Some x → test x ≡ true → position_or_len test xs ≤ k
  first_no_later [] k x is passes = absurd (none-some x is)
  first_no_later (y ∷ xs) zero x is passes =
      let none_before : position_or_len test (y ∷ xs) ≡ 0 = cond-false _ _ _ (ap not (ap test (same_Some y x is) ∙ passes)) in
      omega (arith, none_before)
  first_no_later (y ∷ xs) (suc k) x is passes = go (not (test y)) (first_no_later xs k x is passes)
    where
      go : (b : Bool) → position_or_len test xs ≤ k → cond b (1 + position_or_len test xs) 0 ≤ suc k
      go true earlier = omega (arith, earlier)
      go false earlier = omega arith

  -- an item that passes has a first one that does
  pub has_first : (xs : List X) (k : ℕ) (x : X) → slice_get xs k ≡ Some x → test x ≡ true → position test xs ≡ Some (position_or_len test xs)
  has_first xs k x is passes =
      let earlier = first_no_later xs k x is passes in
      let within = slice_get_within xs k x is in
      let below : position_or_len test xs < length xs = omega (arith, earlier, within) in
      cond-true _ _ _ (lt-ltb _ _ below)

  -- the first item that passes is in the list
  pub found_item : (xs : List X) (n : ℕ) → position test xs ≡ Some n → (x : X) × (slice_get xs n ≡ Some x) × (test x ≡ true)
  found_item [] n is = absurd (none-some n is)
  found_item (y ∷ xs) n is = let at = position-Some test (y ∷ xs) n y is in (get_or (y ∷ xs) n y, slice_get-get_or (y ∷ xs) n y at.0, at.1)

-- literals that oppose each other
opposed_by : (known literal : Option Bool) → permits known literal ≡ false → (sign : Bool) × (known ≡ Some sign) × (literal ≡ Some (not sign))
opposed_by None literal e = absurd (false≢true (sym e))
opposed_by (Some known) None e = absurd (false≢true (sym e))
opposed_by (Some true) (Some true) e = absurd (false≢true (sym e))
opposed_by (Some true) (Some false) e = (true, refl, refl)
opposed_by (Some false) (Some true) e = (false, refl, refl)
opposed_by (Some false) (Some false) e = absurd (false≢true (sym e))

-- cubes of which one does not lie beside the other contradict each other
pub contradicts_by : (cube other : CubeView) → is_beside cube other ≡ false → Contradicts cube other
contradicts_by [] other e = absurd (false≢true (sym e))
contradicts_by (known ∷ cube) [] e = absurd (false≢true (sym e))
contradicts_by (known ∷ cube) (literal ∷ other) e = by (permits known literal) refl e (contradicts_by cube other)
  where
    by : (b : Bool) → permits known literal ≡ b → (b && is_beside cube other) ≡ false → (is_beside cube other ≡ false → Contradicts cube other) → Contradicts (known ∷ cube) (literal ∷ other)
    by false here rest later = let opposed = opposed_by known literal here in (zero, opposed.0, opposed.1, opposed.2)
    by true here rest later = let apart = later rest in (suc apart.0, apart.1, apart.2, apart.3)

module _ (rules : List Rule) (cube : CubeView) where
  -- whether the cube does not contradict the condition of a rule
  abbrev beside : Rule → Bool
  beside rule = is_beside cube rule.cond

  -- the cube contradicts each condition before the first that it does not contradict
  pub apart_before : (first number : ℕ) → position beside rules ≡ Some first → number ≤ first → IsApart (firsts_of rules) number cube
  apart_before first number found later before other lt at =
      let rule = rule_of rules before other at in
      let fails = (position-Some beside rules first rule.0 found).2 before (omega (arith, lt, later)) in
      let own : get_or rules before rule.0 ≡ rule.0 = get_or_from_slice_get rules before rule.0 rule.0 rule.1 in
      subst (λ (f : First). Contradicts cube f.cond) rule.2 (contradicts_by cube rule.0.cond (sym (ap beside own) ∙ fails))

  -- if it contradicts each condition before a number, the first that it does not contradict is no earlier
  pub before_apart : (first number : ℕ) → position beside rules ≡ Some first → IsApart (firsts_of rules) number cube → number ≤ first
  before_apart first number found apart = ⊎_elim
      (λ lt.
      let rule = found_item beside rules first found in
      let opposed = apart first (first_of rule.0) lt (first_at rules first rule.0 rule.1) in
      absurd ((is_beside-Decides cube rule.0.cond).0 rule.2 opposed))
      (λ ge. ge)
      (cases_lt first number)

  -- it contradicts all conditions if there is none that it does not contradict
  pub apart_all : (number : ℕ) → position beside rules ≡ None → IsApart (firsts_of rules) number cube
  apart_all number none before other lt at =
      let rule = rule_of rules before other at in
      let fails = false_from_ne_true (beside rule.0) (λ passes. none-some _ (sym none ∙ has_first beside rules before rule.0 rule.1 passes)) in
      subst (λ (f : First). Contradicts cube f.cond) rule.2 (contradicts_by cube rule.0.cond fails)

-- conditions over some atoms are those of rules over them
pub rules_over : (atoms : ℕ) (rules : List Rule) → AreFirstsOver atoms (firsts_of rules) → AreOver atoms rules
rules_over atoms rules over = λ number d small. let rule = get_or rules number d in over number (first_of rule) (first_at rules number rule (slice_get-get_or rules number d small))
