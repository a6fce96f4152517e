use Rattle.std.proofs.Common.{◌≡◌, length}
use Rattle.fond_task.specs.Images.{image}
use Rattle.fond_layers.specs.Leads.{LiesInSome}
use Rattle.fond_layers.proofs.Tried.{AllBefore}
use Rattle.fond_layers.proofs.force.leads_earlier.Given as goal

abbrev pub invariant-loop-outcome : goal.invariant-loop-outcome
invariant-loop-outcome l = record {
  long : length l.image ≡ length l.cube;
  misses : AllBefore l.outcome-items (λ outcome. ¬ LiesInSome (image l.cube outcome) l.earlier) l.outcome-index;
}
