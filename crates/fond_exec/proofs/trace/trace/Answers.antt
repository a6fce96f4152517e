use Rattle.fond_exec.proofs.Traced.{trace_text}
use Rattle.fond_exec.proofs.trace.trace.Goals as goal

pub returns : goal.returns
returns g c =
    trace_text (g.P.Picks.pick_of c.args.picks.now) c.args.task.now c.args.rules.now c.args.words.now c.in_ok-run.run' c.put_steps.new.run c.new-text.result c.put_steps.new.text c.finished.result c.new-text.ensures c.in_ok-run.ensures c.put_steps.ensures.task
    c.put_steps.ensures.traced c.finished.ensures.text c.finished.ensures.goal
