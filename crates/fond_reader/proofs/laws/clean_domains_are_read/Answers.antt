use Rattle.fond_reader.proofs.BuiltFiles.{domain_built}
use Rattle.fond_reader.proofs.ReadFiles.{domain_fits}
use Rattle.fond_reader.proofs.laws.clean_domains_are_read.Goals as goal

pub returns : goal.returns
returns c = λ tree short. (λ fits. domain_built tree short fits, λ read. domain_fits tree read.0 read.1)
