use Rattle.fond_text.proofs.Adding.{adds_then}
use Rattle.fond_check.proofs.text.put_unruled.Goals as goal

pub returns : goal.returns
returns c =
    adds_then _ _ _ _ _ c.add.ensures c.put_state.ensures
