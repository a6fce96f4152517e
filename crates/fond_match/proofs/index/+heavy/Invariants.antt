use Rattle.std.proofs.Common.{length}
use Rattle.fond_match.proofs.index.+heavy.Given as goal

abbrev pub decreases-heavy : goal.decreases-heavy
decreases-heavy l = length l.blocks.now
