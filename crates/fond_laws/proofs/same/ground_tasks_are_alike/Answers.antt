use Rattle.fond_laws.proofs.SameGround.{ground_of_same}
use Rattle.fond_laws.proofs.SameTask.{alike, same_ground}
use Rattle.fond_laws.proofs.same.ground_tasks_are_alike.Goals as goal

pub returns : goal.returns
returns c = λ task other game another same one two. alike game another (same_ground other game another (ground_of_same task other game same one) two)
