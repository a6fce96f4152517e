-- Nothing that was skipped begins a token, and the end stays the same.
use Rattle.std.proofs.Common.{◌≡◌, length}
use Rattle.fond_tree.specs.Left.{marks_at, end_at}
use Rattle.fond_tree.specs.Tokens.{Gap}
use Rattle.fond_tree.proofs.Places.{gap_or_comment}
use Rattle.fond_tree.proofs.scan.Scanner.skip.Given as goal

abbrev pub invariant-loop-b : goal.invariant-loop-b
invariant-loop-b l = record {
  same : marks_at (gap_or_comment l.in_comment) l.self.place l.self.rest.now ≡ marks_at Gap l.initial.self.place l.initial.self.rest.now;
  end : end_at l.self.place l.self.rest.now ≡ end_at l.initial.self.place l.initial.self.rest.now;
}

abbrev pub decreases-loop-b : goal.decreases-loop-b
decreases-loop-b l = length l.self.rest.now
