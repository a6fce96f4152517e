-- Names that an index has, whatever their numbers.
use Rattle.std.proofs.Common.{◌≡◌, ℕ, ◌||◌, Bool, true, false, List, ◌∷◌, Option, Some, None, is_some, refl, ap, ◌∙◌}
use Rattle.std.specs.Prelude.{if◌then◌else◌}
use Rattle.std.specs.Option.{option_or}
use Rattle.std.specs.Str.{bytes_eq}
use Rattle.std.specs.Cmp.Lexicographic.{nat_list_eq_equiv}
use Rattle.fond_store.specs.Texts.{number_beside, InsertsText}
use Rattle.fond_names.specs.Names.{is_among}

-- a name is there if it was there or is the one that was inserted
pub kept_there : (items more : List (List ℕ × ℕ)) (kept : List ℕ) (number : ℕ) (text : List ℕ) → InsertsText items kept number more → is_some (number_beside more text) ≡ (is_some (number_beside items text) || bytes_eq kept text)
kept_there items more kept number text grown = ap is_some (grown text) ∙ by (number_beside items text) (bytes_eq kept text)
  where
    by : (found : Option ℕ) (same : Bool) → is_some (option_or found (if same then Some number else None)) ≡ (is_some found || same)
    by None true = refl
    by None false = refl
    by (Some other) same = refl

pub or_again : (a b c : Bool) → ((a || b) || c) ≡ (a || (b || c))
or_again true b c = refl
or_again false b c = refl

-- one more name is there, and one fewer is left
pub kept_more : (items more : List (List ℕ × ℕ)) (kept : List ℕ) (number : ℕ) (left : List (List ℕ)) (text : List ℕ) → InsertsText items kept number more →
    (is_some (number_beside more text) || is_among left text) ≡ (is_some (number_beside items text) || is_among (kept ∷ left) text)
kept_more items more kept number left text grown =
    ap (λ b. b || is_among left text) (kept_there items more kept number text grown)
    ∙ or_again (is_some (number_beside items text)) (bytes_eq kept text) (is_among left text)
    ∙ ap (λ b. is_some (number_beside items text) || (b || is_among left text)) (nat_list_eq_equiv.symm kept text)
