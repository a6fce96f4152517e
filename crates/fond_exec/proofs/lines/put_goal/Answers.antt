use Rattle.fond_text.proofs.Adding.{adds_then}
use Rattle.fond_exec.proofs.lines.put_goal.Goals as goal

pub returns : goal.returns
returns c =
    adds_then _ _ _ _ _ (adds_then _ _ _ _ _ c.add.ensures c.add_number.ensures) c.add-2.ensures
