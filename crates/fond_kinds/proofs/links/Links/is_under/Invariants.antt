use Rattle.std.proofs.Common.{◌<◌, length}
use Rattle.std.specs.Prelude.{slice_index}
use Rattle.fond_kinds.specs.Parents.{IsBelow}
use Rattle.fond_kinds.proofs.links.Links.is_under.Given as goal

abbrev pub invariant-loop-at : goal.invariant-loop-at
invariant-loop-at l = record {
  there : l.at < length l.self.ups;
  on : IsBelow l.self.ups l.number l.above → IsBelow l.self.ups l.at l.above;
  back : IsBelow l.self.ups l.at l.above → IsBelow l.self.ups l.number l.above;
}

abbrev pub decreases-loop-at : goal.decreases-loop-at
decreases-loop-at l = slice_index l.self.times l.at
