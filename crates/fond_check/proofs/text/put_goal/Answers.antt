use Rattle.fond_text.proofs.Adding.{adds_then}
use Rattle.fond_check.proofs.text.put_goal.Goals as goal

pub returns : goal.returns
returns c =
    adds_then _ _ _ _ _ c.put_cube.ensures c.add.ensures
