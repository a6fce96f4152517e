use Rattle.std.proofs.Common.{sym, subst}
use Rattle.fond_rules.specs.Belongs.{BelongTo}
use Rattle.fond_commands.specs.Certified.{CertReply}
use Rattle.fond_commands.specs.Drawn.{AnswersGraph}
use Rattle.fond_commands.proofs.CertReplies.{not_read}
use Rattle.fond_commands.proofs.Runs.{rules_belong}
use Rattle.fond_commands.proofs.Drawn.{drawn_answer}
use Rattle.fond_commands.proofs.graph.draw.Goals as goal

pub returns-in_err-files-clause-rejected : goal.returns-in_err-files-clause-rejected
returns-in_err-files-clause-rejected c = not_read c.args.texts.now c.args.cert.now (AnswersGraph c.args.limit) _ c.in_err-files.field-0.0 c.from_residual.ensures.1 c.in_err-files.ensures.rejected

pub graph_answer-requires : goal.graph_answer-requires
graph_answer-requires c =
    let read = c.in_ok-files.field-0 in
    subst (BelongTo c.deref.result.now) (sym c.rules_of-rules.ensures) (rw c.deref.ensures (rules_belong read.files.game.value read.cert c.in_ok-files.ensures.spelled.0))

pub returns-clause-replied : goal.returns-clause-replied
returns-clause-replied c =
    let read = c.in_ok-files.field-0 in
    let task = read.files.task.value in
    let game = read.files.game.value in
    let reply = c.in_ok-graph_answer.field-0 in
    CertReply.answered task game read.cert reply c.in_ok-files.ensures.described c.in_ok-files.ensures.spelled
    (drawn_answer c.args.limit task game read.cert c.in_ok-files.ensures.described.1 reply (rw (c.rules_of-rules.ensures, c.deref.ensures) at c.in_ok-graph_answer.ensures))
