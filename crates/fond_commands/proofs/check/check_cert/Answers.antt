use Rattle.fond_commands.specs.Certified.{CertReply}
use Rattle.fond_commands.specs.Checks.{AnswersCheck}
use Rattle.fond_commands.proofs.Checks.{judged}
use Rattle.fond_commands.proofs.CertReplies.{not_read}
use Rattle.fond_commands.proofs.check.check_cert.Goals as goal

pub returns-in_err-read-clause-rejected : goal.returns-in_err-read-clause-rejected
returns-in_err-read-clause-rejected c = not_read c.args.texts.now c.args.cert.now AnswersCheck _ c.in_err-read.field-0.0 c.from_residual.ensures.1 c.in_err-read.ensures.rejected

pub verdict_answer-requires : goal.verdict_answer-requires
verdict_answer-requires c = rw c.deref.ensures c.in_ok-read.ensures.spelled.0

pub returns-clause-replied : goal.returns-clause-replied
returns-clause-replied c =
    let read = c.in_ok-read.read in
    CertReply.answered read.files.task.value read.files.game.value read.cert c.in_ok-verdict_answer.field-0 c.in_ok-read.ensures.described c.in_ok-read.ensures.spelled
    (judged read.files.task.value read.files.game.value c.in_ok-read.ensures.described.1 read.cert c.in_ok-verdict_answer.field-0 (rw c.deref.ensures at c.in_ok-verdict_answer.ensures))
