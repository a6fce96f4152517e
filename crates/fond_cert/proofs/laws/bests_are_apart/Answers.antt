use Rattle.fond_cert.proofs.Headers.{cert_no_best, table_no_best, best_no_other}
use Rattle.fond_cert.proofs.laws.bests_are_apart.Goals as goal

pub returns : goal.returns
returns c = (cert_no_best, table_no_best, best_no_other)
