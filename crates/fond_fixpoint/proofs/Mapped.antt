-- A list of which each item is replaced in turn.
use Rattle.std.proofs.Common.{◌≡◌, ℕ, zero, suc, ◌<◌, List, [], ◌∷◌, ◌++◌, length, map, take, drop, get_or, set, refl, ap, arith}

pub set_mapped : {X : Type 0} (f : X → X) (xs : List X) (i : ℕ) (d : X) → i < length xs →
    set (map f (take i xs) ++ drop i xs) i (f (get_or (map f (take i xs) ++ drop i xs) i d)) ≡ map f (take (suc i) xs) ++ drop (suc i) xs
set_mapped f [] i d within = absurd (omega (arith, within))
set_mapped f (x ∷ xs) zero d within = refl
set_mapped f (x ∷ xs) (suc i) d within = ap (λ ys. f x ∷ ys) (set_mapped f xs i d (omega (arith, within)))
