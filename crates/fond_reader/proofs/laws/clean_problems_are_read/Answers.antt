use Rattle.fond_reader.proofs.BuiltFiles.{problem_built}
use Rattle.fond_reader.proofs.ReadFiles.{problem_fits}
use Rattle.fond_reader.proofs.laws.clean_problems_are_read.Goals as goal

pub returns : goal.returns
returns c = λ tree short. (λ fits. problem_built tree short fits, λ read. problem_fits tree read.0 read.1)
