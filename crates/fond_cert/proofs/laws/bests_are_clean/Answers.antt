use Rattle.fond_cert.specs.declared.due.Document.TheVariants.{Best}
use Rattle.fond_cert.specs.Spellings.{best_lines}
use Rattle.fond_cert.proofs.OneFault.{no_fault_as}
use Rattle.fond_cert.proofs.OwnLines.{best_leads}
use Rattle.fond_cert.proofs.laws.bests_are_clean.Goals as goal

pub returns : goal.returns
returns c = λ task cert code byte belongs small. no_fault_as Best task (best_lines task cert) code byte (best_leads task cert belongs small)
