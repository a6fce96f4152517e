use Rattle.fond_cert.proofs.Headers.{cert_no_table, table_no_cert}
use Rattle.fond_cert.proofs.laws.documents_differ.Goals as goal

pub returns : goal.returns
returns c = (cert_no_table, table_no_cert)
