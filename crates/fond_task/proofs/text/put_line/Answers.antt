use Rattle.fond_task.proofs.text.put_line.Goals as goal

pub returns-then-is_true : goal.returns-then-is_true
returns-then-is_true g c = rw c.if-is_true.true (g.met.O.Out.adds_then _ _ _ _ _ c.put_atom.ensures c.add.ensures)
