use Rattle.fond_oneof.proofs.Forms.{both_first, both_pair}
use Rattle.fond_oneof.proofs.form.both.Goals as goal

pub returns-then-is_truth : goal.returns-then-is_truth
returns-then-is_truth c = both_first c.args.form.now c.args.other.now c.in_ok-first.first (c.is_truth.ensures c.if-is_truth.true) c.in_ok-first.ensures

pub returns : goal.returns
returns c = both_pair c.args.form.now c.args.other.now c.in_ok-first.first c.in_ok-second.second c.in_ok-pair.field-0 c.in_ok-pair.ensures c.in_ok-first.ensures c.in_ok-second.ensures
