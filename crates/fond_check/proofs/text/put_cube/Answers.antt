use Rattle.fond_text.proofs.Adding.{adds_then}
use Rattle.fond_check.proofs.text.put_cube.Goals as goal

pub returns : goal.returns
returns c =
    let three = adds_then _ _ _ _ _ (adds_then _ _ _ _ _ c.add.ensures c.add_number.ensures) c.add-2.ensures in
    adds_then _ _ _ _ _ (adds_then _ _ _ _ _ three c.add_number-2.ensures) c.add-3.ensures
