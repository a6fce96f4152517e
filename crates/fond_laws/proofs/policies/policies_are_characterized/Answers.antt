use Rattle.fond_laws.proofs.GroundMaps.{ground_maps_are_characterized}
use Rattle.fond_laws.proofs.LiftedMaps.{maps_are_characterized}
use Rattle.fond_laws.proofs.policies.policies_are_characterized.Goals as goal

pub returns : goal.returns
returns c = record { ground = ground_maps_are_characterized; lifted = maps_are_characterized }
