use Rattle.std.proofs.Common.{◌≡◌, false, length}
use Rattle.fond_form.specs.Parts.{after_leaves}
use Rattle.fond_form.proofs.scan.after_leaves.Given as goal

abbrev pub invariant-loop-b : goal.invariant-loop-b
invariant-loop-b l = after_leaves l.is_open l.rest ≡ after_leaves false l.text

abbrev pub decreases-loop-b : goal.decreases-loop-b
decreases-loop-b l = length l.rest
