use Rattle.std.proofs.Common.{sym, subst}
use Rattle.fond_rules.specs.Belongs.{BelongTo}
use Rattle.fond_commands.specs.Certified.{CertReply}
use Rattle.fond_commands.specs.Rejections.{of_script}
use Rattle.fond_commands.specs.Replies.{Reply}
use Rattle.fond_commands.specs.Runs.{AnswersRun, RunReply}
use Rattle.fond_commands.proofs.CertReplies.{not_read}
use Rattle.fond_commands.proofs.Rejections.{rejected_by, rejects_also}
use Rattle.fond_commands.proofs.Runs.{rules_belong, script_rejected, traced}
use Rattle.fond_commands.proofs.run.run.Goals as goal

pub returns-in_err-files-clause-rejected : goal.returns-in_err-files-clause-rejected
returns-in_err-files-clause-rejected c = not_read c.args.texts.now c.args.cert.now (AnswersRun c.args.script.now) _ c.in_err-files.field-0.0 c.from_residual.ensures.1 c.in_err-files.ensures.rejected

pub returns-in_err-numbers-clause-rejected : goal.returns-in_err-numbers-clause-rejected
returns-in_err-numbers-clause-rejected c =
    let read = c.in_ok-files.field-0 in
    let task = read.files.task.value in
    let game = read.files.game.value in
    let script = c.args.script.now in
    let error = c.in_err-numbers.field-0.0 in
    rejected_by _ (of_script error) (RunReply c.args.texts.now c.args.cert.now script) c.from_residual-in_err-numbers.ensures.1
    (rejects_also (AnswersRun script task game read.cert) _ (of_script error) (λ (reply : Reply) is. CertReply.answered task game read.cert reply c.in_ok-files.ensures.described c.in_ok-files.ensures.spelled is)
    (script_rejected script task game read.cert error c.in_err-numbers.ensures.refused))

pub script_answer-requires : goal.script_answer-requires
script_answer-requires c =
    let read = c.in_ok-files.field-0 in
    subst (BelongTo c.deref.result.now) (sym c.rules_of-rules.ensures) (rw c.deref.ensures (rules_belong read.files.game.value read.cert c.in_ok-files.ensures.spelled.0))

pub returns-clause-replied : goal.returns-clause-replied
returns-clause-replied c =
    let read = c.in_ok-files.field-0 in
    let task = read.files.task.value in
    let game = read.files.game.value in
    let reply = c.in_ok-script_answer.field-0 in
    CertReply.answered task game read.cert reply c.in_ok-files.ensures.described c.in_ok-files.ensures.spelled
    (traced c.args.script.now task game read.cert c.in_ok-files.ensures.described.1 c.in_ok-numbers.numbers.items reply c.in_ok-numbers.ensures.read
    (rw (c.deref-2.ensures.value, c.rules_of-rules.ensures, c.deref.ensures) at c.in_ok-script_answer.ensures))
