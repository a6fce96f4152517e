-- Inserting the texts of a list in order, each with its index, keeps the first index of each text.
use Rattle.std.proofs.Common.{◌≡◌, ℕ, ◌+◌, Bool, true, false, List, [], ◌∷◌, Option, Some, None, drop, length, ◌≤◌, arith, slice_get, position, cond, refl, sym, ap, ◌∙◌}
use Rattle.std.specs.Prelude.{if◌then◌else◌}
use Rattle.std.specs.List.{position_from}
use Rattle.std.specs.Option.{option_or}
use Rattle.std.specs.Str.{bytes_eq}
use Rattle.std.proofs.lemmas.Iterator.Adapters.{position_from-zero}
use Rattle.std.proofs.lemmas.Grind.{common_steps}
use Rattle.std.proofs.lemmas.List.{at_drop_more}
use Rattle.std.proofs.lemmas.Option.{slice_get_within, get_or_from_slice_get}
use Rattle.fond_store.specs.Texts.{number_beside, InsertsText}
use Rattle.fond_store.proofs.Entries.{or_none}

-- the rest of a list from an index on is the element there and the rest after it
drop_at : {X : Type 0} (xs : List X) (i : ℕ) (x : X) → slice_get xs i ≡ Some x → drop i xs ≡ x ∷ drop (i + 1) xs
drop_at xs i x at =
    at_drop_more (λ rest. rest) xs i x (slice_get_within xs i x at) ∙ ap (λ y. y ∷ drop (i + 1) xs) (get_or_from_slice_get xs i x x at)

-- the first of a number, a number under a test, and a later number, grouped in two ways
pub or_later : (first : Option ℕ) (b : Bool) (number : ℕ) (later : Option ℕ) →
    option_or (option_or first (if b then Some number else None)) later ≡ option_or first (cond b (Some number) later)
or_later None true number later = refl
or_later None false number later = refl
or_later (Some other) b number later = refl

module _ {X : Type 0} (written : X → List ℕ) (xs : List X) where
  -- the index of the first element with this text, among those from an index on
  abbrev pub first_from : ℕ → List ℕ → Option ℕ
  first_from i text = position_from (λ x. bytes_eq (written x) text) i (drop i xs)

  -- the items have the first index of each text among the elements before an index: together with the rest they give each first index
  abbrev pub HasFirsts : List (List ℕ × ℕ) → ℕ → Type 0
  HasFirsts items i = (text : List ℕ) → option_or (number_beside items text) (first_from i text) ≡ first_from 0 text

  -- the text of the next element is inserted
  pub has_more : (items more : List (List ℕ × ℕ)) (i : ℕ) (x : X) (kept : List ℕ) → slice_get xs i ≡ Some x → kept ≡ written x → InsertsText items kept i more →
      HasFirsts items i → HasFirsts more (i + 1)
  has_more items more i x kept is same grown has text =
      ap (λ found. option_or found (first_from (i + 1) text)) (grown text)
      ∙ ap (λ bytes. option_or (option_or (number_beside items text) (if bytes_eq bytes text then Some i else None)) (first_from (i + 1) text)) same
      ∙ or_later (number_beside items text) (bytes_eq (written x) text) i (first_from (i + 1) text)
      ∙ sym (ap (λ left. option_or (number_beside items text) (position_from (λ y. bytes_eq (written y) text) i left)) (drop_at xs i x is))
      ∙ has text

  -- after the last element the items have the first index of each text
  pub has_all : (items : List (List ℕ × ℕ)) (i : ℕ) → length xs ≤ i → HasFirsts items i → (text : List ℕ) → number_beside items text ≡ position (λ x. bytes_eq (written x) text) xs
  has_all items i end has text =
      let none : drop i xs ≡ [] = grind (arith, common_steps) in
      sym (or_none (number_beside items text)) ∙ sym (ap (λ left. option_or (number_beside items text) (position_from (λ x. bytes_eq (written x) text) i left)) none)
      ∙ has text ∙ sym (position_from-zero (λ x. bytes_eq (written x) text) xs)
