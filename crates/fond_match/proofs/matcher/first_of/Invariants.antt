use Rattle.std.proofs.Common.{◌≡◌, ℕ, ◌<◌, false, get_or}
use Rattle.fond_match.proofs.matcher.first_of.Given as goal

abbrev pub invariant-loop-at : goal.invariant-loop-at
invariant-loop-at g l = (k : ℕ) (d : g.row.T.Denot) → k < l.at → g.Q.Query.lies l.query (g.T.HasCube.cube (get_or l.items k d)) ≡ false
