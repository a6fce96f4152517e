use Rattle.fond_cert.proofs.OneCert.{one_cert}
use Rattle.fond_cert.proofs.laws.spellings_differ.Goals as goal

pub returns : goal.returns
returns c = one_cert
