-- States in cubes of sure layers.
use Rattle.std.proofs.Common.{◌≡◌, ℕ, zero, suc, List, [], ◌∷◌, ◌++◌, Bool, true, Option, Some, None, length, sym, ap, subst, ⊎_elim, inl, arith}
use Rattle.std.specs.Option.{is_some}
use Rattle.std.specs.Prelude.{slice_get, Contains, MatchOption}
use Rattle.std.proofs.lemmas.Bool.{false≢true}
use Rattle.std.proofs.lemmas.List.Elements.{All-contains, Contains-append_left, Contains-append_right}
use Rattle.std.proofs.lemmas.Option.{none-some, same_Some}
use Rattle.fond_task.specs.declared.task.Act.{Act}
use Rattle.fond_task.specs.declared.task.Task.{Task}
use Rattle.fond_state.specs.Cubes.{LiesIn}
use Rattle.fond_task.specs.Certificates.{LiesInLayers}
use Rattle.fond_task.specs.Layers.{CubeView, AreSureLayers, Forces, IsSureCube}
use Rattle.fond_task.proofs.Lists.{Contains_numbered, number_of, Contains-here, Contains-cases}
use Rattle.fond_layers.specs.Deads.{IsFirstDead}
use Rattle.fond_layers.specs.Over.{AreOver, IsOver}
use Rattle.fond_explicit.proofs.Distinct.{nothing_in}
use Rattle.fond_weak.specs.Weak.{ShowsLost}
use Rattle.fond_weak.proofs.Closed.{first_outcome}

-- a list around the item of a number
record Around {X : Type 0} (xs : List X) (x : X) : Type 0 where
  before : List X
  after : List X
  split : xs ≡ before ++ x ∷ after

around : {X : Type 0} (xs : List X) (i : ℕ) (x : X) → slice_get xs i ≡ Some x → Around xs x
around [] i x is = absurd (none-some x is)
around (y ∷ xs) zero x is = record { before = []; after = xs; split = ap (λ v. v ∷ xs) (same_Some y x is) }
around (y ∷ xs) (suc i) x is = let rest = around xs i x is in record { before = y ∷ rest.before; after = rest.after; split = ap (λ v. y ∷ v) rest.split }

module _ (task : Task) (before : List (List CubeView)) (layer : List CubeView) (after : List (List CubeView)) where
  abbrev all : List (List CubeView)
  all = before ++ layer ∷ after

  has_layer : Contains all layer
  has_layer = Contains-append_right before (layer ∷ after) layer (Contains-here layer after)

  -- an action that leads into a layer or an earlier one leads into one of the layers
  forces_all : (cube : CubeView) (lost : List CubeView) (act : Act) → Contains task.acts act → Forces before layer cube act → Forces all lost cube act
  forces_all cube lost act one forces = ⊎_elim
      (λ early. inl (early.0, Contains-append_left before (layer ∷ after) early.0 early.1, early.2))
      (λ now. ⊎_elim
      (λ fair.
      let at = number_of task.acts act one in
      let first = first_outcome task at.0 act at.1 in
      inl (layer, has_layer, (first.0, first.1, fair.1 first.0 first.1)))
      (λ unfair. inl (layer, has_layer, unfair.1))
      now)
      forces

  sure_all : (cube : CubeView) (lost : List CubeView) → IsSureCube task before layer cube → IsSureCube task all lost cube
  sure_all cube lost sure = record { no_goal = sure.no_goal; forced = λ act one may. forces_all cube lost act one (sure.forced act one may) }

-- a state for which a cube of the layers was found lies in the layers
pub dead_lies : (state : List Bool) (layers : List (List CubeView)) (found : Option (ℕ × ℕ)) → MatchOption found (¬ LiesInLayers state layers) (λ r. IsFirstDead state layers r.0 r.1) → is_some found ≡ true → LiesInLayers state layers
dead_lies state layers None told some = absurd (false≢true some)
dead_lies state layers (Some place) told some =
    record { layer = told.layer; one = Contains_numbered layers place.0 told.layer told.has_layer; cube = told.one.cube; has = Contains_numbered told.layer place.1 told.one.cube told.one.has_cube; lies = told.one.lies }

-- one cube over some atoms is a layer over them
over_one : (atoms : ℕ) (cube : CubeView) → length cube ≡ atoms → IsOver atoms (cube ∷ [])
over_one atoms cube long zero d within = long
over_one atoms cube long (suc i) d within = absurd (omega (arith, within))

-- a cube of a layer, alone, shows that its states are lost
pub shows_lost : (task : Task) (layers : List (List CubeView)) → AreOver (length task.atoms) layers → AreSureLayers task layers → (number : ℕ) (layer : List CubeView) → slice_get layers number ≡ Some layer → (cube : CubeView) → Contains layer cube →
    (state : List Bool) → LiesIn state cube → ShowsLost task layers state (cube ∷ [])
shows_lost task layers over sure number layer at cube has state lies =
    let parts = around layers number layer at in
    let own : IsSureCube task parts.before layer cube = sure parts.before layer parts.after parts.split cube has in
    let here : IsSureCube task layers (cube ∷ []) cube
    = subst (λ (ls : List (List CubeView)). IsSureCube task ls (cube ∷ []) cube) (sym parts.split) (sure_all task parts.before layer parts.after cube (cube ∷ []) own) in
    record {
      sure = λ other one. ⊎_elim (λ same. subst (λ (c : CubeView). IsSureCube task layers (cube ∷ []) c) same here) (λ none. absurd (nothing_in other none)) (Contains-cases other cube [] one);
      over = over_one (length task.atoms) cube
          (All-contains (λ (c : CubeView). length c ≡ length task.atoms) layer cube (All-contains (IsOver (length task.atoms)) layers layer over (Contains_numbered layers number layer at)) has);
      few = omega arith;
      cube = cube;
      has = Contains-here cube [];
      lies = lies;
    }
