use Rattle.fond_text.specs.Text.{Adds}
use Rattle.fond_demo.specs.Demos.{for_each, way}
use Rattle.fond_demo.proofs.problem.put_ways.Given as goal

abbrev pub invariant-loop-number : goal.invariant-loop-number
invariant-loop-number l = Adds l.initial.text l.text (for_each l.number (way l.words))
