use Rattle.fond_cert.specs.Spellings.{cert_lines}
use Rattle.fond_cert.proofs.OneFault.{no_fault}
use Rattle.fond_cert.proofs.OwnLines.{cert_leads}
use Rattle.fond_cert.proofs.laws.spellings_are_clean.Goals as goal

pub returns : goal.returns
returns c = λ task cert code byte belongs small. no_fault task (cert_lines task cert) code byte (cert_leads task cert belongs small)
