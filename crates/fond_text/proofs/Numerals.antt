-- What parsing bytes says of the number whose digits they are.
use Rattle.std.proofs.Common.{◌≡◌, ◌≢◌, ℕ, ◌<◌, ◌^◌, List, ◌∙◌, sym, ap, subst, Result, Some, None}
use Rattle.std.specs.Fmt.{decimal}
use Rattle.std.specs.Result.{result_ok}
use Rattle.std.specs.Str.{IsAscii, IsUtf8}
use Rattle.std.specs.Str.Parse.{ParsesUnsigned}
use Rattle.std.proofs.lemmas.Fmt.{IsAscii-decimal, parse-decimal}
use Rattle.std.proofs.lemmas.Str.{IsUtf8-from_ascii}

pub not_text : (bytes : List ℕ) → ¬ IsUtf8 bytes → (n : ℕ) → n < 2 ^ 64 → bytes ≢ decimal n
not_text bytes bad n small is = bad (IsUtf8-from_ascii bytes (subst IsAscii (sym is) (IsAscii-decimal n small)))

-- the digits of a number are parsed as it
module _ (E : Type 0) (bytes text : List ℕ) (r : Result ℕ E) (same : text ≡ bytes) (parses : ParsesUnsigned {E = E} 64 10 text r) (n : ℕ) (small : n < 2 ^ 64) (is : bytes ≡ decimal n) where
  parsed : result_ok r ≡ Some n
  parsed = ap result_ok (parse-decimal {E = E} 64 n text r small small (same ∙ is) parses)

  pub not_parsed : ¬ result_ok r ≡ None
  not_parsed none = let both : None ≡ Some n = sym none ∙ parsed in absurd (cc)

  pub own_digits : (number : ℕ) → result_ok r ≡ Some number → bytes ≡ decimal number
  own_digits number some =
      let both : Some n ≡ Some number = sym parsed ∙ some in
      let one : n ≡ number = cc in
      is ∙ ap decimal one
