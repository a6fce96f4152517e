-- Pairs for steps into layers.
use Rattle.std.proofs.Common.{◌≡◌, ℕ, List, Bool, true, Option, Some, None, length, sym, ap, ◌∙◌, subst}
use Rattle.std.specs.Option.{is_some}
use Rattle.std.specs.Prelude.{MatchOption}
use Rattle.std.proofs.lemmas.Bool.{false≢true}
use Rattle.fond_state.specs.Cubes.{CubeLiesIn, full_cube}
use Rattle.fond_task.specs.declared.task.Task.{Task}
use Rattle.fond_task.proofs.Lists.{Contains_numbered}
use Rattle.fond_task.proofs.Reached.{length-next_state}
use Rattle.fond_task.specs.Certificates.{LiesInLayers}
use Rattle.fond_task.specs.Layers.{CubeView, IsSurePair}
use Rattle.fond_layers.specs.Deads.{IsFirstDead}
use Rattle.fond_layers.specs.Over.{AreOver}
use Rattle.fond_planner.specs.Walks.{IsStep}
use Rattle.fond_planner.specs.declared.walk.Step.{Step}
use Rattle.fond_draft.proofs.Full.{full_lies}
use Rattle.fond_draft.proofs.Lists.{over_cube}
use Rattle.fond_draft.proofs.Sure.{full_image}
use Rattle.fond_planner.proofs.Walked.{state_long}

-- the pair of a step's whole state is sure, if its next state lies in the cube that it names
pub dead_pair : (task : Task) (step : Step) (layers : List (List CubeView)) (layer cube : ℕ) → IsStep task step → AreOver (length task.atoms) layers → IsFirstDead step.next layers layer cube
    → IsSurePair task layers (record { cond = full_cube step.state; act = step.act; outcome = step.outcome; layer = layer; cube = cube })
dead_pair task step layers layer cube is over dead =
    let outset = is.outset in
    let long = state_long task step is in
    let next_long : length step.next ≡ length task.atoms = ap length is.led ∙ length-next_state step.state is.entries ∙ long in
    let target_long : length dead.one.cube ≡ length task.atoms = over_cube (length task.atoms) layers layer dead.layer cube dead.one.cube over dead.has_layer dead.one.has_cube in
    record {
      layer = dead.layer;
      has_layer = dead.has_layer;
      target = dead.one.cube;
      has_target = dead.one.has_cube;
      act = outset.act;
      has_act = outset.has_act;
      outcome = is.entries;
      has_outcome = is.has_outcome;
      leads = subst (λ (c : CubeView). CubeLiesIn c dead.one.cube)
          (ap full_cube is.led ∙ sym (full_image task step.act outset.act step.state step.outcome is.entries outset.has_act long is.has_outcome))
          (full_lies step.next dead.one.cube (target_long ∙ sym next_long) dead.one.lies);
    }

-- a state that is found in a cube of a layer lies in it
pub dead_lies : (state : List Bool) (layers : List (List CubeView)) (found : Option (ℕ × ℕ)) → MatchOption found (¬ LiesInLayers state layers) (λ r. IsFirstDead state layers r.0 r.1) → is_some found ≡ true → LiesInLayers state layers
dead_lies state layers None told some = absurd (false≢true some)
dead_lies state layers (Some place) told some =
    record { layer = told.layer; one = Contains_numbered layers place.0 told.layer told.has_layer; cube = told.one.cube; has = Contains_numbered told.layer place.1 told.one.cube told.one.has_cube; lies = told.one.lies }
