use Rattle.std.proofs.Common.{length}
use Rattle.fond_cert.proofs.Wholes.{IsReadTo}
use Rattle.fond_cert.proofs.lines.add_lines.Given as goal

abbrev pub invariant-loop-piece : goal.invariant-loop-piece
invariant-loop-piece l = IsReadTo l.fn.document l.index l.text l.rest l.due l.draft

abbrev pub decreases-loop-piece : goal.decreases-loop-piece
decreases-loop-piece l = length l.rest
