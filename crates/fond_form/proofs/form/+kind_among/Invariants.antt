use Rattle.std.proofs.Common.{length}
use Rattle.fond_form.proofs.form.+kind_among.Given as goal

abbrev pub decreases-kind_among : goal.decreases-kind_among
decreases-kind_among l = length l.kinds.now
