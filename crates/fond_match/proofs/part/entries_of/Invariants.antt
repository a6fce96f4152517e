use Rattle.std.proofs.Common.{◌++◌, map, take}
use Rattle.fond_match.specs.Runs.{picked}
use Rattle.fond_match.specs.Visits.{Keeps}
use Rattle.fond_match.proofs.part.entries_of.Given as goal

abbrev pub invariant-loop-number : goal.invariant-loop-number
invariant-loop-number g l = Keeps (map g.T.HasCube.cube l.items) (λ _. take l.number-index l.numbers) (λ has. l.rest.items ++ picked has l.entries.items)
