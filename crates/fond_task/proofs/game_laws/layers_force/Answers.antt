use Rattle.fond_task.proofs.Forced.{layers_exclude}
use Rattle.fond_task.proofs.game_laws.layers_force.Goals as goal

pub returns : goal.returns
returns c = layers_exclude
