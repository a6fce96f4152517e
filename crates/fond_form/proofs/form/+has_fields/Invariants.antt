use Rattle.std.proofs.Common.{length}
use Rattle.fond_form.proofs.form.+has_fields.Given as goal

abbrev pub decreases-has_fields : goal.decreases-has_fields
decreases-has_fields l = length l.fields.now
