use Rattle.std.proofs.Common.{◌≡◌, length, Decides}
use Rattle.fond_task.specs.Layers.{Leads}
use Rattle.fond_layers.proofs.Tried.{AllBefore, SomeBefore}
use Rattle.fond_layers.proofs.force.leads_again.Given as goal

abbrev pub invariant-loop-outcome : goal.invariant-loop-outcome
invariant-loop-outcome l = record {
  long : length l.image ≡ length l.cube;
  some_tried : Decides l.some_leads (SomeBefore l.outcome-items (λ outcome. Leads l.cube outcome l.layer) l.outcome-index);
  each_tried : Decides l.each_leads (AllBefore l.outcome-items (λ outcome. Leads l.cube outcome l.layer) l.outcome-index);
}
