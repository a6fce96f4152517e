use Rattle.fond_commands.proofs.CertReplies.{cert_refused, files_refused, text_of_equal}
use Rattle.fond_commands.proofs.certified.read_certified.Goals as goal

pub returns-in_err-files-clause-rejected : goal.returns-in_err-files-clause-rejected
returns-in_err-files-clause-rejected c = files_refused c.args.texts.now c.args.cert.now _ c.in_err-files.field-0.0 c.from_residual.ensures.1 c.in_err-files.ensures.refused

pub returns-in_err-cert-clause-rejected : goal.returns-in_err-cert-clause-rejected
returns-in_err-cert-clause-rejected c =
    cert_refused c.args.texts.now c.args.cert.now _ c.in_ok-files.files.task.value c.in_ok-files.files.game.value c.in_err-cert.field-0.0 c.in_ok-files.ensures.read c.from_residual-in_err-cert.ensures.1
    (rw c.deref.ensures at c.in_err-cert.ensures.refused)

pub returns-clause-spelled : goal.returns-clause-spelled
returns-clause-spelled c = text_of_equal _ _ _ _ c.deref.ensures (c.in_ok-cert.ensures.belongs, c.in_ok-cert.ensures.small, c.in_ok-cert.ensures.read)
