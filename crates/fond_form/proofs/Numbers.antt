-- Digits and their value.
use Rattle.std.proofs.lemmas.Bool.{and_parts}
use Rattle.std.proofs.Common.{◌≡◌, ◌≢◌, ℕ, ◌^◌, ◌<◌, ◌≤◌, ◌==◌, ◌&&◌, ◌||◌, not, nat_lt, Bool, true, false, List, [], ◌∷◌, length, get_or, refl, sym, ap, ◌∙◌, arith}
use Rattle.std.specs.Char.{is_ascii_digit}
use Rattle.std.specs.Int.{IsInRange}
use Rattle.std.specs.List.{list_all}
use Rattle.std.specs.Str.Parse.{digits_value}
use Rattle.std.specs.Fmt.{decimal}
use Rattle.std.proofs.lemmas.Bool.Decides.{nat_tests}
use Rattle.std.proofs.lemmas.Str.Parse.{IsDigitsTest, IsNumeralModel, numerals_by_value}
use Rattle.std.proofs.lemmas.Fmt.{decimal-digits_value, digits_value-decimal}
use borrow.Author.Tests.{eqb-true}
use Rattle.fond_form.specs.Lines.{is_number}
use Rattle.fond_form.proofs.Cuts.{number_first}

in_range : (b : ℕ) → is_ascii_digit b ≡ true → IsInRange 48 57 b
in_range b e = grind (arith, nat_tests)

from_range : (b : ℕ) → IsInRange 48 57 b → is_ascii_digit b ≡ true
from_range b h = grind (arith, nat_tests)

tells : IsDigitsTest (λ ds. list_all is_ascii_digit ds ≡ true)
tells = record {
  empty = refl;
  parts = λ c cs e. let k = and_parts (is_ascii_digit c) (list_all is_ascii_digit cs) e in (in_range c k.0, k.1);
  more = λ c cs k e. rw (from_range c k) e;
}

pub model : IsNumeralModel (λ ds. list_all is_ascii_digit ds ≡ true) (digits_value 10)
model = numerals_by_value (λ ds. list_all is_ascii_digit ds ≡ true) tells

pub number_digits : (digits : List ℕ) → is_number digits ≡ true → list_all is_ascii_digit digits ≡ true
number_digits [] e = absurd (cc)
number_digits (b ∷ rest) e = let p = number_first b rest e in rw p.0 p.1

zero_alone : (v : Bool) (b : ℕ) (rest : List ℕ) → (b == 48) ≡ v → (not v || length rest == 0) ≡ true → b ≡ 48 → length (b ∷ rest) ≡ 1
zero_alone true b rest e f z = let n : length rest ≡ 0 = eqb-true (length rest) 0 f in omega arith
zero_alone false b rest e f z = absurd (grind (arith, nat_tests))

canonical : (digits : List ℕ) → is_number digits ≡ true → (0 < length digits) × (get_or digits 0 0 ≡ 48 → length digits ≡ 1)
canonical [] e = absurd (cc)
canonical (b ∷ rest) e =
    let p = and_parts (is_ascii_digit b && (not (b == 48) || length rest == 0)) (list_all is_ascii_digit rest) e in
    let q = and_parts (is_ascii_digit b) (not (b == 48) || length rest == 0) p.0 in
    (omega arith, zero_alone (b == 48) b rest refl q.1)

-- the digits of a number below 2 ^ 64 are what is written for their value
pub written_value : (digits : List ℕ) (n : ℕ) → is_number digits ≡ true → n < 2 ^ 64 → n ≡ digits_value 10 digits → digits ≡ decimal n
written_value digits n e h f =
    let k = canonical digits e in
    let small : digits_value 10 digits < 2 ^ 64 = rw f at h in
    sym (decimal-digits_value model digits (number_digits digits e) k.0 k.1 small) ∙ ap decimal (sym f)

-- a number whose digits these are is their value
pub value_is : (digits : List ℕ) (n : ℕ) → n < 2 ^ 64 → digits ≡ decimal n → n ≡ digits_value 10 digits
value_is digits n small same = sym (ap (digits_value 10) same ∙ digits_value-decimal model n small)

-- digits of no number below 2 ^ 64 have a value of 2 ^ 64 or more
pub no_value : (digits : List ℕ) → is_number digits ≡ true → ((n : ℕ) → n < 2 ^ 64 → digits ≢ decimal n) → 2 ^ 64 ≤ digits_value 10 digits
no_value digits number none = by_test (nat_lt (digits_value 10 digits) (2 ^ 64)) refl
  where
    by_test : (b : Bool) → nat_lt (digits_value 10 digits) (2 ^ 64) ≡ b → 2 ^ 64 ≤ digits_value 10 digits
    by_test true below =
        let fits : digits_value 10 digits < 2 ^ 64 = grind (arith, nat_tests) in
        absurd (none (digits_value 10 digits) fits (written_value digits (digits_value 10 digits) number fits refl))
    by_test false above = grind (arith, nat_tests)
