use Rattle.fond_text.proofs.Adding.{adds_nothing}
use Rattle.fond_demo.specs.Demos.{lamp_name}
use Rattle.fond_demo.proofs.Each.{one_more}
use Rattle.fond_demo.proofs.problem.put_lamps.Goals as goal

pub loop-number-init : goal.loop-number-init
loop-number-init c = adds_nothing _

pub loop-number-preserved : goal.loop-number-preserved
loop-number-preserved c = one_more lamp_name c.loop-number.number _ _ _ c.loop-number.invariant c.put_lamp.ensures
