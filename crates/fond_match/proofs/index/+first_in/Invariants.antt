use Rattle.std.proofs.Common.{length}
use Rattle.fond_match.proofs.index.+first_in.Given as goal

abbrev pub decreases-first_in : goal.decreases-first_in
decreases-first_in g l = length l.blocks.now
