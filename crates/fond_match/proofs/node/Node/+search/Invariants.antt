use Rattle.std.proofs.Common.{◌≤◌, ◌++◌, map, take}
use Rattle.fond_match.specs.declared.node.Node.TheViews.{out-Node}
use Rattle.fond_match.specs.Visits.{IsLeast, visits_of_all}
use Rattle.fond_match.proofs.node.Node.+search.Given as goal

abbrev pub decreases-search : goal.decreases-search
decreases-search g l = goal.size-search g l

abbrev pub invariant-loop-branch : goal.invariant-loop-branch
invariant-loop-branch g l = record {
  below : l.found ≤ l.best;
  searched : IsLeast (g.Q.Query.lies l.query) (map g.T.HasCube.cube l.items) l.best ((out-Node l.self).numbers.items ++ visits_of_all (g.Q.Query.has l.query) (take l.branch-index l.branch-items)) l.found;
}
