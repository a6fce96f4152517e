-- What is known to hold or not to hold, and tests of it.
use Rattle.std.proofs.Common.{inl, inr, ◌≡◌, ℕ, zero, suc, ◌<◌, ◌≤◌, List, [], ◌∷◌, Bool, true, false, Option, Some, None, refl, sym, ap, subst, arith}
use Rattle.std.specs.Prelude.{◌⊎◌, Contains}
use Rattle.std.specs.Bool.{Decides}
use Rattle.std.proofs.lemmas.Bool.{cases_lt, false≢true}
use Rattle.std.proofs.lemmas.Bool.Decides.{Decides-eqb}
use Rattle.std.proofs.lemmas.Option.{none-some, same_Some}
use Rattle.fond_games.proofs.Lists.{decided, Contains-none, Contains-here, Contains-later, Contains-cases}

-- something holds or does not hold
abbrev pub Known : Type 0 → Type 0
Known P = P ⊎ (¬ P)

-- the test of what is known
abbrev pub test_of : {P : Type 0} → Known P → Bool
test_of (inl is) = true
test_of (inr none) = false

pub test_decides : {P : Type 0} (known : Known P) → Decides (test_of known) P
test_decides (inl is) = (λ e. is, λ p. refl)
test_decides (inr none) = (λ e. absurd (false≢true e), λ p. absurd (none p))

-- what is the same as something known is known
pub known_as : {P Q : Type 0} → (P → Q) → (Q → P) → Known P → Known Q
known_as to from (inl is) = inl (to is)
known_as to from (inr none) = inr (λ q. none (from q))

pub known_both : {P Q : Type 0} → Known P → Known Q → Known (P × Q)
known_both (inl p) (inl q) = inl (p, q)
known_both (inl p) (inr none) = inr (λ both. none both.1)
known_both (inr none) q = inr (λ both. none both.0)

pub known_either : {P Q : Type 0} → Known P → Known Q → Known (P ⊎ Q)
known_either (inl p) q = inl (inl p)
known_either (inr none) (inl q) = inl (inr q)
known_either {P} {Q} (inr none) (inr also) = inr neither
  where
    neither : ¬ (P ⊎ Q)
    neither (inl p) = none p
    neither (inr q) = also q

pub known_number : (one other : ℕ) → Known (one ≡ other)
known_number one other = decided _ (Decides-eqb one other)

pub known_option : (one other : Option ℕ) → Known (one ≡ other)
known_option None None = inl refl
known_option None (Some x) = inr (λ e. none-some x e)
known_option (Some x) None = inr (λ e. none-some x (sym e))
known_option (Some x) (Some y) = known_as (λ e. ap Some e) (λ e. same_Some x y e) (known_number x y)

pub known_bit : (bit : Bool) → Known (bit ≡ true)
known_bit true = inl refl
known_bit false = inr (λ e. false≢true e)

-- some item of a list is so
pub known_some : {X : Type 0} (Is : X → Type 0) → ((x : X) → Known (Is x)) → (xs : List X) → Known ((x : X) × Contains xs x × Is x)
known_some Is each [] = inr (λ some. Contains-none some.0 some.1)
known_some {X} Is each (y ∷ xs) = go (each y) (known_some Is each xs)
  where
    none_of : ¬ Is y → ¬ ((x : X) × Contains xs x × Is x) → (x : X) → Is x → (y ≡ x) ⊎ Contains xs x → ⊥
    none_of not_first none x is (inl e) = not_first (subst Is (sym e) is)
    none_of not_first none x is (inr has) = none (x, has, is)

    go : Known (Is y) → Known ((x : X) × Contains xs x × Is x) → Known ((x : X) × Contains (y ∷ xs) x × Is x)
    go (inl is) rest = inl (y, Contains-here y xs, is)
    go (inr not_first) (inl found) = inl (found.0, Contains-later found.0 y xs found.1, found.2)
    go (inr not_first) (inr none) = inr (λ some. none_of not_first none some.0 some.2 (Contains-cases some.0 y xs some.1))

-- all numbers are so, if those from a bound on are
pub known_all : (Is : ℕ → Type 0) → ((at : ℕ) → Known (Is at)) → (bound : ℕ) → ((at : ℕ) → bound ≤ at → Is at) → Known ((at : ℕ) → Is at)
known_all Is each zero above = inl (λ at. above at (omega arith))
known_all Is each (suc bound) above = go (each bound) (λ from. known_all Is each bound from)
  where
    more : Is bound → (at : ℕ) → bound ≤ at → (bound < at) ⊎ (at ≤ bound) → Is at
    more is at high (inl less) = above at (omega (arith, less))
    more is at high (inr low) = let same : bound ≡ at = omega (arith, high, low) in subst Is same is

    go : Known (Is bound) → (((at : ℕ) → bound ≤ at → Is at) → Known ((at : ℕ) → Is at)) → Known ((at : ℕ) → Is at)
    go (inl is) below = below (λ at high. more is at high (cases_lt bound at))
    go (inr none) below = inr (λ all. none (all bound))
