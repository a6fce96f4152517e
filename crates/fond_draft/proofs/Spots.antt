-- Layers with a fault, and stable cubes as layers above others.
use Rattle.std.proofs.Common.{inl, inr, List, [], ◌∷◌, Bool, refl, arith}
use Rattle.fond_task.specs.declared.task.Act.{Act}
use Rattle.fond_task.specs.declared.task.Task.{Task}
use Rattle.fond_task.proofs.Lists.{Contains_numbered}
use Rattle.fond_task.specs.Layers.{CubeView, Forces, IsSureLayer}
use Rattle.fond_layers.specs.Faults.{IsSpot}
use Rattle.fond_layers.specs.declared.fault.Spot.{Spot}
use Rattle.fond_layers.specs.declared.fault.Spot.TheVariants.{Goal, NotSure}
use Rattle.fond_regress.specs.Stable.{IsHopelessBy}
use Rattle.fond_regress.proofs.Hopeless.{stable_sure}
use Rattle.fond_draft.specs.Learning.{IsDeadAround}

-- a layer with a spot is not sure
pub spot_refutes : (task : Task) (layers : List (List CubeView)) (layer : List CubeView) (spot : Spot) → IsSpot task layers layer spot → ¬ IsSureLayer task layers layer
spot_refutes task layers layer (Goal number) spot sure = spot.wrong (sure spot.cube (Contains_numbered layer number spot.cube spot.has_cube)).no_goal
spot_refutes task layers layer (NotSure number act) spot sure =
    let escape = spot.wrong.1 in
    escape.escapes.1 ((sure spot.cube (Contains_numbered layer number spot.cube spot.has_cube)).forced escape.act (Contains_numbered task.acts act escape.act escape.has_act) escape.escapes.0)

-- a layer that is sure above none is sure above any
forces_above : (layers : List (List CubeView)) (layer : List CubeView) (cube : CubeView) (act : Act) → Forces [] layer cube act → Forces layers layer cube act
forces_above layers layer cube act (inl earlier) = absurd (omega (arith, earlier.1.1))
forces_above layers layer cube act (inr own) = inr own

pub sure_above : (task : Task) (layers : List (List CubeView)) (layer : List CubeView) → IsSureLayer task [] layer → IsSureLayer task layers layer
sure_above task layers layer sure cube has =
    let own = sure cube has in
    record { no_goal = own.no_goal; forced = λ act has_act may. forces_above layers layer cube act (own.forced act has_act may) }

-- a cube by which a state is hopeless is dead around it, above any layers
pub hopeless_dead : (task : Task) (layers : List (List CubeView)) (state : List Bool) (cube : CubeView) → IsHopelessBy task state cube → IsDeadAround task layers state cube
hopeless_dead task layers state cube hopeless = record {
  over = hopeless.over;
  lies = hopeless.lies;
  sure = sure_above task layers (cube ∷ []) (stable_sure task cube hopeless.stable hopeless.no_goal [] (cube ∷ []) [] refl);
}
