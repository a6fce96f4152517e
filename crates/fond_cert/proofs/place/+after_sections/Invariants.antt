use Rattle.std.proofs.Common.{length}
use Rattle.fond_cert.proofs.place.+after_sections.Given as goal

abbrev pub decreases-after_sections : goal.decreases-after_sections
decreases-after_sections l = length l.sections.now
