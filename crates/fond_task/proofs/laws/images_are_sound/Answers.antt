use Rattle.fond_task.proofs.Nexts.{image_holds_next}
use Rattle.fond_task.proofs.laws.images_are_sound.Goals as goal

pub returns : goal.returns
returns c = image_holds_next
