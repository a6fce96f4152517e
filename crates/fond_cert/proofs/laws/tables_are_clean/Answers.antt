use Rattle.fond_cert.specs.declared.due.Document.TheVariants.{Table}
use Rattle.fond_cert.specs.Spellings.{table_lines}
use Rattle.fond_cert.proofs.OneFault.{no_fault_as}
use Rattle.fond_cert.proofs.OwnLines.{table_leads}
use Rattle.fond_cert.proofs.laws.tables_are_clean.Goals as goal

pub returns : goal.returns
returns c = λ task rows code byte belongs few. no_fault_as Table task (table_lines task rows) code byte (table_leads task rows belongs few)
