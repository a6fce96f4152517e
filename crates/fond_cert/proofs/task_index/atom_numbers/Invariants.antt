use Rattle.fond_task.specs.Texts.{atom_text}
use Rattle.fond_store.proofs.Firsts.{HasFirsts}
use Rattle.fond_cert.proofs.task_index.atom_numbers.Given as goal

abbrev pub invariant-loop-i : goal.invariant-loop-i
invariant-loop-i l = HasFirsts (atom_text l.task.labels) l.task.atoms l.numbers l.i
