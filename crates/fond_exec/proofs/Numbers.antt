-- The digits of a number below 2^32, as a word.
use Rattle.std.proofs.Common.{◌≡◌, ℕ, ◌<◌, ◌^◌, List, sym, ◌∙◌, arith, Result, Ok, Err, IfNone}
use Rattle.std.specs.Fmt.{decimal}
use Rattle.std.specs.Result.{OkIff, result_ok}
use Rattle.std.proofs.lemmas.Fmt.{decimal_injective}
use Rattle.fond_exec.specs.Scripts.{IsNumber}

-- a word that spells a number of 2^32 or more spells none below it
pub too_large : (E : Type 0) (word : List ℕ) (number : ℕ) (r : Result ℕ E) → number < 2 ^ 64 → word ≡ decimal number → OkIff r (number < 2 ^ 32) number →
    IfNone (result_ok r) ((n : ℕ) → ¬ IsNumber word n)
too_large E word number (Ok n) fits digits ok = tt
too_large E word number (Err e) fits digits large = λ n is.
    let same : number ≡ n = decimal_injective number n fits (omega (arith, is.1)) (sym digits ∙ is.0) in
    large (omega (arith, same, is.1))
