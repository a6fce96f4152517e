use Rattle.std.proofs.Common.{◌≡◌, ◌<◌, ℕ, length, slice_get, Some, List}
use Rattle.fond_task.specs.declared.task.Entry.{Entry}
use Rattle.fond_task.specs.Images.{image}
use Rattle.fond_policy.specs.Items.{LiesInItem}
use Rattle.fond_policy.proofs.sure.lead_into.Given as goal

abbrev pub invariant-loop-i : goal.invariant-loop-i
invariant-loop-i l = record {
  long : length l.image ≡ length l.cube;
  counted : length l.numbers ≡ length l.act.outcomes;
  led : (k number : ℕ) (entries : List Entry) → k < l.i → slice_get l.numbers k ≡ Some number → slice_get l.act.outcomes k ≡ Some entries → LiesInItem l.others (image l.cube entries) number;
}
