use Rattle.std.proofs.Common.{subst}
use Rattle.fond_layers.specs.Faults.{IsLayerFault}
use Rattle.fond_layers.specs.declared.fault.LayerFault.{LayerFault}
use Rattle.fond_layers.specs.declared.fault.Spot.TheVariants.{Goal, NotSure}
use Rattle.fond_draft.proofs.Spots.{spot_refutes}
use Rattle.fond_draft.proofs.learn.not_sure.Goals as goal

pub returns-in-Goal : goal.returns-in-Goal
returns-in-Goal c = λ task layers layer told.
    spot_refutes task layers layer (Goal c.in-Goal.cube) (subst (λ (fault : LayerFault). IsLayerFault task layers layer fault) c.in-Goal.is told)

pub returns-in-NotSure : goal.returns-in-NotSure
returns-in-NotSure c = λ task layers layer told.
    spot_refutes task layers layer (NotSure c.in-NotSure.cube c.in-NotSure.act) (subst (λ (fault : LayerFault). IsLayerFault task layers layer fault) c.in-NotSure.is told)
