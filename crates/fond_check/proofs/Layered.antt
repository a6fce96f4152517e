-- The verdicts for a layer that is not sure, and for a refusal whose layers are sure.
use Rattle.std.proofs.Common.{◌≡◌, ℕ, List, Bool, true, false, Option, Some, None, sym, subst}
use Rattle.std.specs.Option.{is_some}
use Rattle.std.specs.Prelude.{MatchOption}
use Rattle.std.proofs.lemmas.Bool.{false≢true, true≢false}
use Rattle.fond_task.specs.declared.task.Task.{Task}
use Rattle.fond_task.proofs.Lists.{Contains_numbered}
use Rattle.fond_task.specs.Certificates.{LiesInLayers}
use Rattle.fond_task.specs.Layers.{CubeView}
use Rattle.fond_layers.specs.Deads.{IsFirstDead}
use Rattle.fond_layers.specs.declared.fault.Spot.{Spot}
use Rattle.fond_layers.specs.declared.fault.Spot.TheVariants.{Goal, NotSure}
use Rattle.fond_check.specs.Verdicts.{IsFirstBadLayer, IsRefusalVerdict, of_spot}
use Rattle.fond_check.specs.declared.verdict.Verdict.{Verdict}

-- the verdict for a layer of a refusal that is not sure
pub refused_layer : (task : Task) (layers : List (List CubeView)) (layer : ℕ) (spot : Spot) (verdict : Verdict) → verdict ≡ of_spot layer spot → IsFirstBadLayer task layers layer spot → IsRefusalVerdict task layers verdict
refused_layer task layers layer (Goal cube) verdict is bad = subst (IsRefusalVerdict task layers) (sym is) bad
refused_layer task layers layer (NotSure cube act) verdict is bad = subst (IsRefusalVerdict task layers) (sym is) bad

module _ (state : List Bool) (layers : List (List CubeView)) where
  -- a state that is found in no layer lies in none
  pub dead_none : (found : Option (ℕ × ℕ)) → MatchOption found (¬ LiesInLayers state layers) (λ r. IsFirstDead state layers r.0 r.1) → is_some found ≡ false → ¬ LiesInLayers state layers
  dead_none None told none = told
  dead_none (Some place) told none = absurd (true≢false none)

  -- a state that is found in a layer lies in it
  pub dead_some : (found : Option (ℕ × ℕ)) → MatchOption found (¬ LiesInLayers state layers) (λ r. IsFirstDead state layers r.0 r.1) → is_some found ≡ true → LiesInLayers state layers
  dead_some None told some = absurd (false≢true some)
  dead_some (Some place) told some =
      record { layer = told.layer; one = Contains_numbered layers place.0 told.layer told.has_layer; cube = told.one.cube; has = Contains_numbered told.layer place.1 told.one.cube told.one.has_cube; lies = told.one.lies }
