use Rattle.std.proofs.Common.{◌≡◌, ◌++◌, drop}
use Rattle.fond_join.specs.Search.{arguments}
use Rattle.fond_join.proofs.search.arguments.Given as goal

abbrev pub invariant-loop-object : goal.invariant-loop-object
invariant-loop-object l = l.objects ++ arguments (drop l.object-index l.env) ≡ arguments l.env
