use Rattle.std.proofs.Common.{sym, subst}
use Rattle.fond_rules.specs.Belongs.{BelongTo}
use Rattle.fond_commands.specs.Certified.{CertReply}
use Rattle.fond_commands.specs.Duels.{AnswersDuel}
use Rattle.fond_commands.proofs.CertReplies.{not_read}
use Rattle.fond_commands.proofs.Runs.{fought, rules_belong}
use Rattle.fond_commands.proofs.duel.duel.Goals as goal

pub returns-in_err-files-clause-rejected : goal.returns-in_err-files-clause-rejected
returns-in_err-files-clause-rejected c = not_read c.args.texts.now c.args.cert.now (AnswersDuel c.args.steps) _ c.in_err-files.field-0.0 c.from_residual.ensures.1 c.in_err-files.ensures.rejected

pub duel_answer-requires : goal.duel_answer-requires
duel_answer-requires c =
    let read = c.in_ok-files.field-0 in
    subst (BelongTo c.deref.result.now) (sym c.rules_of-rules.ensures) (rw c.deref.ensures (rules_belong read.files.game.value read.cert c.in_ok-files.ensures.spelled.0))

pub returns-clause-replied : goal.returns-clause-replied
returns-clause-replied c =
    let read = c.in_ok-files.field-0 in
    let task = read.files.task.value in
    let game = read.files.game.value in
    let reply = c.in_ok-duel_answer.field-0 in
    CertReply.answered task game read.cert reply c.in_ok-files.ensures.described c.in_ok-files.ensures.spelled
    (fought c.args.steps task game read.cert c.in_ok-files.ensures.described.1 reply (rw (c.rules_of-rules.ensures, c.deref.ensures) at c.in_ok-duel_answer.ensures))
