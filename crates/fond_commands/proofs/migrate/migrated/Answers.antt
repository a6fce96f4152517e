use Rattle.std.proofs.Common.{sym, subst}
use Rattle.std.proofs.lemmas.Result.{IfOk-weaker}
use Rattle.fond_commands.specs.Migrations.{AnswersMigrate}
use Rattle.fond_commands.specs.Replies.{Reply}
use Rattle.fond_commands.proofs.migrate.migrated.Goals as goal

pub returns-then-is_fault : goal.returns-then-is_fault
returns-then-is_fault c =
    IfOk-weaker c.answer_of.result _ _
    (λ (reply : Reply) same. subst (AnswersMigrate c.args.text.now c.args.game.now c.args.cert) (sym same)
    (AnswersMigrate.rejected c.in_ok-verdict.verdict c.in_ok-verdict.ensures (c.is_fault.ensures.0 c.if-is_fault.true))) c.answer_of.ensures
