use Rattle.std.proofs.Common.{map}
use Rattle.fond_match.proofs.Kept.{Keeps-parted}
use Rattle.fond_match.proofs.part.part.Goals as goal

pub returns : goal.returns
returns g c =
    Keeps-parted (map g.T.HasCube.cube c.args.items.now) c.args.numbers.items c.deref.result.now c.in_ok-rest.rest.items c.in_ok-rest.entries.items c.sort.new.self.items c.deref-2.result.now c.in_ok-runs.runs.items
    c.deref.ensures.value c.in_ok-sort.ensures.permutation c.deref-2.ensures.value c.in_ok-runs.ensures c.in_ok-rest.ensures
