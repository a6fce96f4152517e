use Rattle.fond_text.proofs.Adding.{adds_then}
use Rattle.fond_demo.proofs.show.put_shown.Goals as goal

pub returns : goal.returns
returns c =
    let three = adds_then _ _ _ _ _ (adds_then _ _ _ _ _ c.add.ensures c.add_number.ensures) c.add-2.ensures in
    let five = adds_then _ _ _ _ _ (adds_then _ _ _ _ _ three c.add_number-2.ensures) c.add-3.ensures in
    let seven = adds_then _ _ _ _ _ (adds_then _ _ _ _ _ five c.add_number-3.ensures) c.add-4.ensures in
    adds_then _ _ _ _ _ (adds_then _ _ _ _ _ seven c.add-5.ensures) c.add-6.ensures
