use Rattle.fond_cert.proofs.OneCert.{one_best}
use Rattle.fond_cert.proofs.laws.bests_differ.Goals as goal

pub returns : goal.returns
returns c = one_best
