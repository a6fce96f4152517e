use Rattle.std.proofs.Common.{take}
use Rattle.std.specs.Prelude.{Contains}
use Rattle.fond_games.specs.Walks.{IsInReach}
use Rattle.fond_games.specs.Graphs.{IsEdge}
use Rattle.fond_games.specs.Visits.{VisitsSome}
use Rattle.fond_games.proofs.tour.visit.Given as goal

abbrev pub invariant-loop-after : goal.invariant-loop-after
invariant-loop-after l = record {
  visits : VisitsSome l.graph l.node (λ after. Contains (take l.after-index l.after-items) after) l.from l.initial.walk.items l.walk.items l.at;
  on : IsInReach (IsEdge l.graph) l.at l.node;
}
