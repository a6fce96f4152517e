use Rattle.std.proofs.Common.{◌≡◌, length}
use Rattle.fond_policy.specs.Items.{firsts_of}
use Rattle.fond_policy.specs.Firsts.{AreFirstConditions}
use Rattle.fond_policy.proofs.conditions.matrix_of.Given as goal

abbrev pub invariant-loop-number : goal.invariant-loop-number
invariant-loop-number l = record {
  counted : length l.matrix ≡ l.number;
  first : AreFirstConditions l.matrix (firsts_of l.rules);
}
