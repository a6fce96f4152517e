use Rattle.std.proofs.Common.{◌++◌, map, vec_len}
use Rattle.fond_match.specs.Runs.{run_visits}
use Rattle.fond_match.specs.Visits.{Keeps, visits_of_all}
use Rattle.fond_match.proofs.grow.+grow.Given as goal

abbrev pub decreases-grow : goal.decreases-grow
decreases-grow g l = l.depth

abbrev pub invariant-loop-run : goal.invariant-loop-run
invariant-loop-run g l = Keeps (map g.T.HasCube.cube l.items) (λ _. l.fn.numbers.items) (λ has. l.rest.items ++ (run_visits has l.runs.items ++ visits_of_all has l.branches.items))

abbrev pub decreases-loop-run : goal.decreases-loop-run
decreases-loop-run g l = vec_len l.runs
