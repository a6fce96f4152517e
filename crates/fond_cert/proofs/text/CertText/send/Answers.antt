use Rattle.std.proofs.Common.{OnOk, OnErr, subst, ap, ◌∙◌}
use Rattle.fond_task.specs.declared.task.Task.{Task}
use Rattle.fond_edge.specs.Written.{Appended, AppendedPart}
use Rattle.fond_cert.specs.Spellings.{spelling}
use Rattle.fond_cert.proofs.text.CertText.send.Goals as goal

pub returns-clause-ok : goal.returns-clause-ok
returns-clause-ok g c =
    let same = ap (λ (game : Task). spelling game c.self.inside.cert) c.deref.ensures ∙ c.self.view_is in
    subst (λ text. OnOk c.write_cert.result (Appended (g.K.Sink.written c.args.sink.now) (g.K.Sink.written c.write_cert.new.sink) text)) same c.write_cert.ensures.ok

pub returns-clause-part : goal.returns-clause-part
returns-clause-part g c =
    let same = ap (λ (game : Task). spelling game c.self.inside.cert) c.deref.ensures ∙ c.self.view_is in
    subst (λ text. OnErr c.write_cert.result (AppendedPart (g.K.Sink.written c.args.sink.now) (g.K.Sink.written c.write_cert.new.sink) text)) same c.write_cert.ensures.part
