use Rattle.fond_text.proofs.Adding.{adds_nothing}
use Rattle.fond_demo.specs.Demos.{way}
use Rattle.fond_demo.proofs.Each.{one_more}
use Rattle.fond_demo.proofs.problem.put_ways.Goals as goal

pub loop-number-init : goal.loop-number-init
loop-number-init c = adds_nothing _

pub loop-number-preserved : goal.loop-number-preserved
loop-number-preserved c = one_more (way c.args.words.now) c.loop-number.number _ _ _ c.loop-number.invariant c.put_way.ensures
