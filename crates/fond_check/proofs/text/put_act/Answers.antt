use Rattle.fond_text.proofs.Adding.{adds_then}
use Rattle.fond_check.proofs.text.put_act.Goals as goal

pub returns : goal.returns
returns c =
    adds_then _ _ _ _ _ (adds_then _ _ _ _ _ c.put_cube.ensures c.put_numbered.ensures) c.add.ensures
