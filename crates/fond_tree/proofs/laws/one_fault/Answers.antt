use Rattle.fond_tree.proofs.OneFault.{one_fault_lem}
use Rattle.fond_tree.proofs.laws.one_fault.Goals as goal

pub returns : goal.returns
returns c = one_fault_lem
