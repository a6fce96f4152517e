-- Whether a cube lies beside another: whether it contradicts no literal of it.
use Rattle.std.proofs.Common.{◌≡◌, ℕ, zero, suc, List, [], ◌∷◌, Bool, true, false, not, Option, Some, None, refl, sym, ap, ◌∙◌}
use Rattle.std.specs.Bool.{Decides}
use Rattle.std.specs.Prelude.{◌&&◌}
use Rattle.std.proofs.lemmas.Bool.{and_parts, and_from, false≢true}
use Rattle.std.proofs.lemmas.Option.{none-some}
use Rattle.fond_text.specs.Bools.{is_same}
use Rattle.fond_state.specs.Cubes.{Contradicts, literal_at}

-- whether what is known of an atom does not oppose a literal of it, if there is one
abbrev pub permits : Option Bool → Option Bool → Bool
permits None literal = true
permits (Some known) None = true
permits (Some known) (Some sign) = is_same known sign

-- whether a cube contradicts no literal of another
abbrev pub is_beside : List (Option Bool) → List (Option Bool) → Bool
is_beside [] other = true
is_beside (known ∷ cube) [] = true
is_beside (known ∷ cube) (literal ∷ other) = permits known literal && is_beside cube other

-- a cube that lies beside another opposes none of its literals
pub beside_has_each : (cube other : List (Option Bool)) (atom : ℕ) (sign : Bool) → is_beside cube other ≡ true → literal_at other atom ≡ Some sign → permits (literal_at cube atom) (Some sign) ≡ true
beside_has_each [] other atom sign e is = refl
beside_has_each (known ∷ cube) [] atom sign e is = absurd (none-some sign is)
beside_has_each (known ∷ cube) (literal ∷ other) zero sign e is = sym (ap (permits known) is) ∙ (and_parts _ _ e).0
beside_has_each (known ∷ cube) (literal ∷ other) (suc atom) sign e is = beside_has_each cube other atom sign (and_parts _ _ e).1 is

permits_not : (sign : Bool) → ¬ permits (Some sign) (Some (not sign)) ≡ true
permits_not true e = false≢true e
permits_not false e = false≢true e

permits_from : (known literal : Option Bool) → ((sign : Bool) → known ≡ Some sign → ¬ literal ≡ Some (not sign)) → permits known literal ≡ true
permits_from None literal none = refl
permits_from (Some known) None none = refl
permits_from (Some true) (Some true) none = refl
permits_from (Some true) (Some false) none = absurd (none true refl refl)
permits_from (Some false) (Some true) none = absurd (none false refl refl)
permits_from (Some false) (Some false) none = refl

beside_from : (cube other : List (Option Bool)) → ¬ Contradicts cube other → is_beside cube other ≡ true
beside_from [] other none = refl
beside_from (known ∷ cube) [] none = refl
beside_from (known ∷ cube) (literal ∷ other) none =
    and_from _ _ (permits_from known literal (λ sign here there. none (zero, sign, here, there))) (beside_from cube other (λ apart. none (suc apart.0, apart.1, apart.2, apart.3)))

-- the test decides whether two cubes do not contradict each other
pub is_beside-Decides : (cube other : List (Option Bool)) → Decides (is_beside cube other) (¬ Contradicts cube other)
is_beside-Decides cube other = (
  λ e apart. permits_not apart.1 (sym (ap (λ known. permits known (Some (not apart.1))) apart.2) ∙ beside_has_each cube other apart.0 (not apart.1) e apart.3),
  beside_from cube other,
)
