use Rattle.std.proofs.Common.{ap}
use Rattle.fond_text.proofs.Adding.{adds_same, adds_then}
use Rattle.fond_demo.specs.Demos.{for_each, lamp_name}
use Rattle.fond_demo.proofs.problem.put_objects.Goals as goal

pub returns : goal.returns
returns c =
    let three = adds_then _ _ _ _ _ (adds_then _ _ _ _ _ c.add.ensures c.put_places.ensures) c.add-2.ensures in
    adds_then _ _ _ _ _ three (adds_same _ _ _ _ (ap (λ count. for_each count lamp_name) c.min.ensures) c.put_lamps.ensures)
