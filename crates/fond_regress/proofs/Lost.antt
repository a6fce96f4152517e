-- A cube that lost a literal.
use Rattle.std.proofs.Common.{◌≡◌, ℕ, zero, suc, ◌+◌, ◌<◌, List, [], ◌∷◌, Bool, true, false, Option, Some, None, refl, sym, ap, ◌∙◌, arith}
use Rattle.std.specs.Prelude.{◌||◌}
use Rattle.std.proofs.lemmas.Bool.{false≢true, or_parts}
use Rattle.std.proofs.lemmas.List.{length-set}
use Rattle.std.proofs.lemmas.Option.{none-some}
use Rattle.fond_state.specs.Cubes.{literal_at, without_literal}
use Rattle.fond_rules.proofs.Literals.{lies_in_rest}
use Rattle.fond_regress.specs.Weaker.{one_if, literals}
use Rattle.fond_regress.specs.Weaker.{IsWeaker}

fewer_literals : (cube : List (Option Bool)) (atom : ℕ) (sign : Bool) → literal_at cube atom ≡ Some sign → suc (literals (without_literal cube atom)) ≡ literals cube
fewer_literals [] atom sign is = absurd (none-some sign is)
fewer_literals (known ∷ cube) zero sign is = let one : one_if known ≡ 1 = ap one_if is in omega (arith, one)
fewer_literals (known ∷ cube) (suc atom) sign is = let less = fewer_literals cube atom sign is in omega (arith, less)

pub weaker_without : (cube : List (Option Bool)) (atom : ℕ) (sign : Bool) → literal_at cube atom ≡ Some sign → IsWeaker cube (without_literal cube atom) true
weaker_without cube atom sign is = record {
  long = length-set cube atom None;
  lies = lies_in_rest cube atom;
  fewer = λ _. let less = fewer_literals cube atom sign is in omega (arith, less);
  none = λ never. absurd (false≢true (sym never));
}

pub weaker_none : (cube : List (Option Bool)) → IsWeaker cube cube false
weaker_none cube = record { long = refl; lies = λ atom sign is. is; fewer = λ is. absurd (false≢true is); none = λ _. refl }

pub weaker_twice : (one two three : List (Option Bool)) (x y : Bool) → IsWeaker one two x → IsWeaker two three y → IsWeaker one three (x || y)
weaker_twice one two three x y first second = record {
  long = second.long ∙ first.long;
  lies = λ atom sign is. first.lies atom sign (second.lies atom sign is);
  fewer = fewer x y first.fewer first.none second.fewer second.none;
  none = λ is. let parts = or_parts x y is in second.none parts.1 ∙ first.none parts.0;
}
  where
    fewer : (x y : Bool) → (x ≡ true → literals two < literals one) → (x ≡ false → two ≡ one) → (y ≡ true → literals three < literals two) → (y ≡ false → three ≡ two) → (x || y) ≡ true → literals three < literals one
    fewer true true a b c d is = omega (arith, a refl, c refl)
    fewer true false a b c d is = omega (arith, a refl, ap literals (d refl))
    fewer false true a b c d is = omega (arith, ap literals (b refl), c refl)
    fewer false false a b c d is = absurd (false≢true is)
