use Rattle.std.proofs.Common.{arith}
use Rattle.fond_cert.proofs.Zipped.{zip_count, zip_at}
use Rattle.fond_cert.proofs.print.RankedListing.put_at.Goals as goal

pub get-rank-requires : goal.get-rank-requires
get-rank-requires g c = omega (arith, zip_count c.args.self.now.items.now c.args.self.now.ranks.now, c.requires.there)

pub get-requires : goal.get-requires
get-requires g c = omega (arith, zip_count c.args.self.now.items.now c.args.self.now.ranks.now, c.requires.there)

pub returns : goal.returns
returns g c = rw (zip_at c.args.self.now.items.now c.args.self.now.ranks.now c.args.i c.get.result.now c.get-rank.result.now c.get.ensures c.get-rank.ensures) c.put_ranked.ensures
