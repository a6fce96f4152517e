use Rattle.fond_cert.proofs.OneFault.{one_fault}
use Rattle.fond_cert.proofs.laws.faults_are_one.Goals as goal

pub returns : goal.returns
returns c = one_fault
