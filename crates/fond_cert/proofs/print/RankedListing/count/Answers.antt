use Rattle.std.proofs.Common.{arith}
use Rattle.fond_cert.proofs.Zipped.{zip_count}
use Rattle.fond_cert.proofs.print.RankedListing.count.Goals as goal

pub returns-clause-count : goal.returns-clause-count
returns-clause-count c = omega (arith, zip_count c.args.self.now.items.now c.args.self.now.ranks.now, c.min.ensures, c.len-ranks.ensures, c.len.ensures)
