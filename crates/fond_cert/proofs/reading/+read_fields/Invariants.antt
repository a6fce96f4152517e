use Rattle.std.proofs.Common.{length}
use Rattle.fond_cert.proofs.reading.+read_fields.Given as goal

abbrev pub decreases-read_fields : goal.decreases-read_fields
decreases-read_fields l = length l.fields.now
