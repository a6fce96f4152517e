use Rattle.fond_task.specs.Texts.{action_text}
use Rattle.fond_store.proofs.Firsts.{HasFirsts}
use Rattle.fond_cert.proofs.task_index.act_numbers.Given as goal

abbrev pub invariant-loop-i : goal.invariant-loop-i
invariant-loop-i l = HasFirsts (λ act. action_text l.task.labels act.ground) l.task.acts l.numbers l.i
