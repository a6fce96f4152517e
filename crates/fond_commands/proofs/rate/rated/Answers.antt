use Rattle.fond_commands.specs.Ratings.{AnswersRate}
use Rattle.fond_commands.specs.Rejections.{of_cert}
use Rattle.fond_commands.proofs.Rated.{judged}
use Rattle.fond_commands.proofs.Rejections.{cert_rejected, rejected_by}
use Rattle.fond_commands.proofs.rate.rated.Goals as goal

pub returns-in_err-cert-clause-rejected : goal.returns-in_err-cert-clause-rejected
returns-in_err-cert-clause-rejected c =
    let holds = AnswersRate c.args.text.now c.args.task.now c.args.game.now in
    let error = c.in_err-cert.field-0.0 in
    rejected_by _ (of_cert error) holds c.from_residual.ensures.1 (cert_rejected holds _ (λ code byte fault. AnswersRate.no_cert code byte fault) error c.in_err-cert.ensures.refused)

pub returns-clause-replied : goal.returns-clause-replied
returns-clause-replied c =
    judged c.args.task.now c.args.game.now c.requires c.args.text.now c.in_ok-cert.cert (c.in_ok-cert.ensures.belongs, c.in_ok-cert.ensures.small, c.in_ok-cert.ensures.read) c.in_ok-verdict_on.field-0 c.in_ok-verdict_on.ensures
