-- Full cubes of states.
use Rattle.std.proofs.Common.{◌≡◌, ℕ, zero, suc, ◌<◌, List, [], ◌∷◌, Bool, true, false, not, Option, Some, None, length, refl, sym, ap, ◌∙◌, ⊎_elim, inl, inr, arith}
use Rattle.std.specs.Prelude.{◌⊎◌}
use Rattle.std.proofs.lemmas.Bool.{false≢true}
use Rattle.std.proofs.lemmas.Option.{none-some, same_Some}
use Rattle.fond_state.specs.Cubes.{Contradicts, CubeLiesIn, LiesIn, full_cube, literal_at, truth_at}
use Rattle.fond_task.specs.Layers.{CubeView}
use Rattle.fond_rules.proofs.Literals.{literal_within}

-- a state lies in its full cube
pub lies_own : (state : List Bool) → LiesIn state (full_cube state)
lies_own [] atom sign is = absurd (none-some sign is)
lies_own (value ∷ state) zero sign is = same_Some value sign is
lies_own (value ∷ state) (suc atom) sign is = lies_own state atom sign is

-- the full cube of a state has a literal of each atom, of its truth value
full_literal : (state : List Bool) (atom : ℕ) → atom < length state → literal_at (full_cube state) atom ≡ Some (truth_at state atom)
full_literal [] atom below = absurd (omega (arith, below))
full_literal (value ∷ state) zero below = refl
full_literal (value ∷ state) (suc atom) below = full_literal state atom (omega (arith, below))

-- the full cube of a state lies in each cube over its atoms in which the state lies
pub full_lies : (state : List Bool) (cube : CubeView) → length cube ≡ length state → LiesIn state cube → CubeLiesIn (full_cube state) cube
full_lies state cube long lies atom sign is =
    let below = literal_within cube atom sign is in
    full_literal state atom (omega (arith, below, long)) ∙ ap (λ value. Some value) (lies atom sign is)

not_opposite : (b : Bool) → ¬ b ≡ not b
not_opposite true is = false≢true (sym is)
not_opposite false is = false≢true is

-- the full cube of a state contradicts no cube in which the state lies
pub lies_not : (state : List Bool) (cube : CubeView) → LiesIn state cube → ¬ Contradicts (full_cube state) cube
lies_not state cube lies apart = not_opposite apart.1 (sym (lies_own state apart.0 apart.1 apart.2) ∙ lies apart.0 (not apart.1) apart.3)

-- a truth value is that of a literal, if there is one, or its opposite
against_or_with : (value : Bool) (known : Option Bool) → (known ≡ Some (not value)) ⊎ ((sign : Bool) → known ≡ Some sign → value ≡ sign)
against_or_with value None = inr (λ sign is. absurd (none-some sign is))
against_or_with true (Some true) = inr (λ sign is. same_Some true sign is)
against_or_with true (Some false) = inl refl
against_or_with false (Some true) = inl refl
against_or_with false (Some false) = inr (λ sign is. same_Some false sign is)

lies_more : (value : Bool) (state : List Bool) (known : Option Bool) (cube : CubeView) → ((sign : Bool) → known ≡ Some sign → value ≡ sign) → LiesIn state cube → LiesIn (value ∷ state) (known ∷ cube)
lies_more value state known cube with_ lies zero sign is = with_ sign is
lies_more value state known cube with_ lies (suc atom) sign is = lies atom sign is

-- the full cube of a state contradicts a cube over its atoms, or the state lies in that cube
pub apart_or_lies : (state : List Bool) (cube : CubeView) → length cube ≡ length state → Contradicts (full_cube state) cube ⊎ LiesIn state cube
apart_or_lies [] [] long = inr (λ atom sign is. absurd (none-some sign is))
apart_or_lies [] (known ∷ cube) long = absurd (omega (arith, long))
apart_or_lies (value ∷ state) [] long = absurd (omega (arith, long))
apart_or_lies (value ∷ state) (known ∷ cube) long = ⊎_elim
    (λ apart. inl (suc apart.0, apart.1, apart.2, apart.3))
    (λ lies. ⊎_elim
    (λ against. inl (zero, value, refl, against))
    (λ with_. inr (lies_more value state known cube with_ lies))
    (against_or_with value known))
    (apart_or_lies state cube (omega (arith, long)))
