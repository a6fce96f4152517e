-- Lists by their lengths.
use Rattle.std.proofs.Common.{◌≡◌, ◌-◌, ◌==◌, ◌≤◌, ◌<◌, true, List, [], ◌∷◌, take, drop, get_or, length, refl, sym, ap, arith}
use Rattle.std.proofs.lemmas.Grind.{common_steps}
use Rattle.std.proofs.lemmas.Bool.Decides.{nat_tests}

pub empty : {X : Type 0} (xs : List X) → (length xs == 0) ≡ true → xs ≡ []
empty [] none = refl
empty (x ∷ xs) none = absurd (grind (arith, nat_tests))

pub none_below : {X : Type 0} (xs : List X) → length xs < 1 → xs ≡ []
none_below [] few = refl
none_below (x ∷ xs) few = absurd (omega arith)

pub one_below : {X : Type 0} (xs : List X) → 1 ≤ length xs → length xs < 2 → (x : X) × (xs ≡ x ∷ [])
one_below [] some few = absurd (omega arith)
one_below (x ∷ []) some few = (x, refl)
one_below (x ∷ y ∷ ys) some few = absurd (omega arith)

-- a list is its first item, its second one and the rest
pub two_and_rest : {X : Type 0} (xs : List X) (second : X) → 2 ≤ length xs → second ≡ get_or xs 1 second → (first : X) × (xs ≡ first ∷ second ∷ take (length xs - 2) (drop 2 xs))
two_and_rest [] second some is = absurd (omega arith)
two_and_rest (x ∷ []) second some is = absurd (omega arith)
two_and_rest (x ∷ y ∷ ys) second some is =
    let rest : take (length (x ∷ y ∷ ys) - 2) ys ≡ ys = grind (arith, common_steps) in
    (x, rw rest (ap (λ z. x ∷ z ∷ ys) (sym is)))
