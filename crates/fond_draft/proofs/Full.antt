-- Full cubes of states.
use Rattle.std.proofs.Common.{◌≡◌, ℕ, zero, suc, ◌<◌, List, [], ◌∷◌, Bool, Some, length, refl, ap, ◌∙◌, arith}
use Rattle.std.proofs.lemmas.Option.{none-some, same_Some}
use Rattle.fond_state.specs.Cubes.{CubeLiesIn, LiesIn, full_cube, literal_at, truth_at}
use Rattle.fond_task.specs.Layers.{CubeView}
use Rattle.fond_rules.proofs.Literals.{literal_within}

-- a state lies in its full cube
pub lies_own : (state : List Bool) → LiesIn state (full_cube state)
lies_own [] atom sign is = absurd (none-some sign is)
lies_own (value ∷ state) zero sign is = same_Some value sign is
lies_own (value ∷ state) (suc atom) sign is = lies_own state atom sign is

-- the full cube of a state has a literal of each atom, of its truth value
full_literal : (state : List Bool) (atom : ℕ) → atom < length state → literal_at (full_cube state) atom ≡ Some (truth_at state atom)
full_literal [] atom below = absurd (omega (arith, below))
full_literal (value ∷ state) zero below = refl
full_literal (value ∷ state) (suc atom) below = full_literal state atom (omega (arith, below))

-- the full cube of a state lies in each cube over its atoms in which the state lies
pub full_lies : (state : List Bool) (cube : CubeView) → length cube ≡ length state → LiesIn state cube → CubeLiesIn (full_cube state) cube
full_lies state cube long lies atom sign is =
    let below = literal_within cube atom sign is in
    full_literal state atom (omega (arith, below, long)) ∙ ap (λ value. Some value) (lies atom sign is)
