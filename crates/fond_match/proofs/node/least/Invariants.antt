use Rattle.std.proofs.Common.{◌≡◌, ◌≤◌, drop, fold, map}
use Rattle.fond_match.specs.Visits.{better}
use Rattle.fond_match.proofs.node.least.Given as goal

abbrev pub invariant-loop-number : goal.invariant-loop-number
invariant-loop-number g l = record {
  below : l.found ≤ l.best;
  searched : fold (better (g.Q.Query.lies l.query) (map g.T.HasCube.cube l.items)) l.found (drop l.number-index l.numbers) ≡ fold (better (g.Q.Query.lies l.query) (map g.T.HasCube.cube l.items)) l.best l.numbers;
}
