use Rattle.fond_task.proofs.Exact.{exact-value, exact-image}
use Rattle.fond_task.proofs.laws.full_cubes_are_exact.Goals as goal

pub returns-clause-value : goal.returns-clause-value
returns-clause-value c = exact-value

pub returns-clause-image : goal.returns-clause-image
returns-clause-image c = exact-image
