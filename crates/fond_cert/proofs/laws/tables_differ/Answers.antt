use Rattle.fond_cert.proofs.OneCert.{one_table}
use Rattle.fond_cert.proofs.laws.tables_differ.Goals as goal

pub returns : goal.returns
returns c = one_table
