-- Which variables occur in a condition, by its form.
use Rattle.std.proofs.Common.{◌≡◌, ℕ, ◌+◌, ◌<◌, ◌≤◌, ◌||◌, ◌∙◌, Bool, false, List, Vec, Box, Global, map, drop, length, get_or, sym, ap}
use Rattle.std.specs.List.{list_any}
use Rattle.std.proofs.lemmas.List.{at_drop_all, at_drop_more}
use Rattle.fond_ast.specs.Laws.{has_variable, has_variable_step}
use Rattle.fond_ast.specs.Patterns.{is_variable}
use Rattle.fond_ast.specs.Ranges.{RangeList}
use Rattle.fond_ast.specs.declared.form.LAtom.{LAtom}
use Rattle.fond_ast.specs.declared.form.LTerm.{LTerm}
use Rattle.fond_ast.specs.declared.form.LCond.{LCond}
use Rattle.fond_ast.specs.declared.form.LCond.TheVariants.{Holds, Equal, And, Or, Not, Imply, Forall, Exists, rolls-Holds, rolls-Equal, rolls-And, rolls-Or, rolls-Not, rolls-Imply, rolls-Forall, rolls-Exists}
use Rattle.fond_ast.specs.declared.form.LCond.TheOpen as open_condition
use Rattle.fond_ast.specs.declared.form.LCond.TheFolds.{fold-roll-LCond}
use Rattle.fond_join.proofs.Items.{drop_item}

pub neither : (a b : Bool) → a ≡ false → b ≡ false → (a || b) ≡ false
neither a b h g = ap (λ c. c || b) h ∙ g

module _ (number : ℕ) where
  pub occurs-Holds : (atom : LAtom) → has_variable number (Holds atom) ≡ list_any (is_variable number) atom.terms
  occurs-Holds atom = ap (has_variable number) (sym (rolls-Holds atom)) ∙ fold-roll-LCond Bool (has_variable_step number) (open_condition.Holds atom)

  pub occurs-Equal : (term other : LTerm) → has_variable number (Equal term other) ≡ (is_variable number term || is_variable number other)
  occurs-Equal term other = ap (has_variable number) (sym (rolls-Equal term other)) ∙ fold-roll-LCond Bool (has_variable_step number) (open_condition.Equal term other)

  pub occurs-And : (parts : Vec LCond Global) → has_variable number (And parts) ≡ list_any (λ found. found) (map (has_variable number) parts.items)
  occurs-And parts = ap (has_variable number) (sym (rolls-And parts)) ∙ fold-roll-LCond Bool (has_variable_step number) (open_condition.And parts)

  pub occurs-Or : (parts : Vec LCond Global) → has_variable number (Or parts) ≡ list_any (λ found. found) (map (has_variable number) parts.items)
  occurs-Or parts = ap (has_variable number) (sym (rolls-Or parts)) ∙ fold-roll-LCond Bool (has_variable_step number) (open_condition.Or parts)

  pub occurs-Not : (part : Box LCond Global) → has_variable number (Not part) ≡ has_variable number part.value
  occurs-Not part = ap (has_variable number) (sym (rolls-Not part)) ∙ fold-roll-LCond Bool (has_variable_step number) (open_condition.Not part)

  pub occurs-Imply : (part other : Box LCond Global) → has_variable number (Imply part other) ≡ (has_variable number part.value || has_variable number other.value)
  occurs-Imply part other = ap (has_variable number) (sym (rolls-Imply part other)) ∙ fold-roll-LCond Bool (has_variable_step number) (open_condition.Imply part other)

  pub occurs-Forall : (ranges : RangeList) (part : Box LCond Global) → has_variable number (Forall ranges part) ≡ has_variable number part.value
  occurs-Forall ranges part = ap (has_variable number) (sym (rolls-Forall ranges part)) ∙ fold-roll-LCond Bool (has_variable_step number) (open_condition.Forall ranges part)

  pub occurs-Exists : (ranges : RangeList) (part : Box LCond Global) → has_variable number (Exists ranges part) ≡ has_variable number part.value
  occurs-Exists ranges part = ap (has_variable number) (sym (rolls-Exists ranges part)) ∙ fold-roll-LCond Bool (has_variable_step number) (open_condition.Exists ranges part)

-- an item that does not pass is left out
pub any_next : {X : Type 0} (test : X → Bool) (xs : List X) (i : ℕ) (other : X) → i < length xs → test (get_or xs i other) ≡ false → list_any test (drop (i + 1) xs) ≡ false → list_any test (drop i xs) ≡ false
any_next test xs i other within none rest = at_drop_more (list_any test) xs i other within ∙ neither (test (get_or xs i other)) (list_any test (drop (i + 1) xs)) none rest

pub any_end : {X : Type 0} (test : X → Bool) (xs : List X) (i : ℕ) → length xs ≤ i → list_any test (drop i xs) ≡ false
any_end test xs i past = at_drop_all (list_any test) xs i past

pub found_next : (number : ℕ) (parts : List LCond) (i : ℕ) (part : LCond) → i < length parts → part ≡ get_or parts i part → has_variable number part ≡ false
    → list_any (λ found. found) (map (has_variable number) (drop (i + 1) parts)) ≡ false → list_any (λ found. found) (map (has_variable number) (drop i parts)) ≡ false
found_next number parts i part within is none rest =
    ap (λ left. list_any (λ found. found) (map (has_variable number) left)) (drop_item parts i part within is)
    ∙ neither (has_variable number part) (list_any (λ found. found) (map (has_variable number) (drop (i + 1) parts))) none rest

pub found_end : (number : ℕ) (parts : List LCond) (i : ℕ) → length parts ≤ i → list_any (λ found. found) (map (has_variable number) (drop i parts)) ≡ false
found_end number parts i past = at_drop_all (λ left. list_any (λ found. found) (map (has_variable number) left)) parts i past
