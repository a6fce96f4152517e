use Rattle.fond_text.proofs.Adding.{adds_then}
use Rattle.fond_demo.proofs.demo.put_domain.Goals as goal

pub returns : goal.returns
returns c =
    let three = adds_then _ _ _ _ _ (adds_then _ _ _ _ _ c.add.ensures c.add-2.ensures) c.add-3.ensures in
    let five = adds_then _ _ _ _ _ (adds_then _ _ _ _ _ three c.add-4.ensures) c.add-5.ensures in
    adds_then _ _ _ _ _ (adds_then _ _ _ _ _ five c.add-6.ensures) c.add-7.ensures
