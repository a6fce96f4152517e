use Rattle.std.proofs.Common.{◌∙◌, sym}
use Rattle.fond_tool.specs.Ends.{Writes}
use Rattle.fond_tool.proofs.Ends.{ends_written, has_memory}
use Rattle.fond_tool.proofs.tool.send_answer.Goals as goal

pub returns-in-Ok-clause-ends : goal.returns-in-Ok-clause-ends
returns-in-Ok-clause-ends g c = λ words reads told.
    let writes : Writes = record { old = g.K.Sink.written c.args.sink.now; new = g.K.Sink.written c.send.new.sink; before = g.K.Sink.faults c.args.sink.now; after = g.K.Sink.faults c.send.new.sink } in
    rw (c.status.ensures, c.ending.ensures) (ends_written words reads writes c.args.answer.now told c.in-Ok.ensures.ok)

pub returns-in-Ok-clause-took_no_memory : goal.returns-in-Ok-clause-took_no_memory
returns-in-Ok-clause-took_no_memory g c = λ is. has_memory c.ending.result (sym c.status.ensures ∙ is)

pub returns-in-Err-clause-ends : goal.returns-in-Err-clause-ends
returns-in-Err-clause-ends g c = λ words reads told. (c.in-Err.ensures.rose, (c.args.answer.now, told, c.in-Err.ensures.part))
