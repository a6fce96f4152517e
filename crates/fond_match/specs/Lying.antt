-- What lies in a cube has each literal of it.
use Rattle.std.proofs.Common.{◌≡◌, ℕ, zero, suc, List, [], ◌∷◌, Bool, true, false, Option, Some, None, refl, ap, ◌∙◌}
use Rattle.std.specs.Bool.{Decides}
use Rattle.std.proofs.lemmas.Bool.{and_parts, and_from, false≢true}
use Rattle.std.proofs.lemmas.Option.{none-some}
use Rattle.fond_text.specs.Bools.{is_same}
use Rattle.fond_state.specs.Cubes.{CubeLiesIn, truth_at, literal_at, lies_in}
use Rattle.fond_state.proofs.Tested.{lies_in-Decides}
use Rattle.fond_match.specs.Lies.{is_sign, allows, cube_lies_in}

pub is_same-refl : (b : Bool) → is_same b b ≡ true
is_same-refl true = refl
is_same-refl false = refl

pub is_same-true : (a b : Bool) → is_same a b ≡ true → a ≡ b
is_same-true true true e = refl
is_same-true true false e = absurd (false≢true e)
is_same-true false true e = absurd (false≢true e)
is_same-true false false e = refl

-- a state that lies in a cube has each literal of it
pub state_has_each : (state : List Bool) (cube : List (Option Bool)) (atom : ℕ) (sign : Bool) → lies_in state cube ≡ true → literal_at cube atom ≡ Some sign → is_same (truth_at state atom) sign ≡ true
state_has_each state cube atom sign lies is =
    ap (λ b. is_same b sign) ((lies_in-Decides state cube).0 lies atom sign is) ∙ is_same-refl sign

is_sign-Some : (known : Option Bool) (sign : Bool) → is_sign known sign ≡ true → known ≡ Some sign
is_sign-Some None sign e = absurd (false≢true e)
is_sign-Some (Some known) sign e = ap (λ b. Some b) (is_same-true known sign e)

is_sign-from_Some : (known : Option Bool) (sign : Bool) → known ≡ Some sign → is_sign known sign ≡ true
is_sign-from_Some known sign e = ap (λ k. is_sign k sign) e ∙ is_same-refl sign

allowed : (known literal : Option Bool) (sign : Bool) → allows known literal ≡ true → literal ≡ Some sign → known ≡ Some sign
allowed known None sign e is = absurd (none-some sign is)
allowed known (Some other) sign e is = is_sign-Some known other e ∙ is

allows_from : (known literal : Option Bool) → ((sign : Bool) → literal ≡ Some sign → known ≡ Some sign) → allows known literal ≡ true
allows_from known None told = refl
allows_from known (Some sign) told = is_sign-from_Some known sign (told sign refl)

lies_from_test : (cube other : List (Option Bool)) → cube_lies_in cube other ≡ true → CubeLiesIn cube other
lies_from_test cube [] e atom sign is = absurd (none-some sign is)
lies_from_test [] (literal ∷ other) e zero sign is = allowed None literal sign (and_parts _ _ e).0 is
lies_from_test [] (literal ∷ other) e (suc atom) sign is = absurd (none-some sign (lies_from_test [] other (and_parts _ _ e).1 atom sign is))
lies_from_test (known ∷ cube) (literal ∷ other) e zero sign is = allowed known literal sign (and_parts _ _ e).0 is
lies_from_test (known ∷ cube) (literal ∷ other) e (suc atom) sign is = lies_from_test cube other (and_parts _ _ e).1 atom sign is

test_from_lies : (cube other : List (Option Bool)) → CubeLiesIn cube other → cube_lies_in cube other ≡ true
test_from_lies cube [] lies = refl
test_from_lies [] (literal ∷ other) lies = and_from _ _ (allows_from None literal (lies 0)) (test_from_lies [] other (λ atom. lies (suc atom)))
test_from_lies (known ∷ cube) (literal ∷ other) lies = and_from _ _ (allows_from known literal (lies 0)) (test_from_lies cube other (λ atom. lies (suc atom)))

-- the test decides whether a cube lies in another
pub cube_lies_in-Decides : (cube other : List (Option Bool)) → Decides (cube_lies_in cube other) (CubeLiesIn cube other)
cube_lies_in-Decides cube other = (lies_from_test cube other, test_from_lies cube other)

-- a cube that lies in another has each literal of it
pub cube_has_each : (cube other : List (Option Bool)) (atom : ℕ) (sign : Bool) → cube_lies_in cube other ≡ true → literal_at other atom ≡ Some sign → is_sign (literal_at cube atom) sign ≡ true
cube_has_each cube other atom sign lies is = is_sign-from_Some (literal_at cube atom) sign (lies_from_test cube other lies atom sign is)
