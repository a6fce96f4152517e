use Rattle.std.proofs.Common.{Err, ap, subst, sym}
use Rattle.std.proofs.lemmas.Result.{IfOk-weaker}
use Rattle.fond_tool.specs.Ends.{ToolReply}
use Rattle.fond_tool.proofs.tool.answer.Goals as goal

pub returns-in_default-clause-answered : goal.returns-in_default-clause-answered
returns-in_default-clause-answered g c =
    let none = rw c.in_default.is at c.in_ok-asked.ensures in
    IfOk-weaker c.line.result _ _ (λ answer is. subst (ToolReply c.args.words.now _) (sym is) (ToolReply.bad_words none)) c.line.ensures

pub returns-in-Ok-clause-answered : goal.returns-in-Ok-clause-answered
returns-in-Ok-clause-answered g c =
    let asked = c.in-Some.asked in
    let asks = rw c.in-Some.is at c.in_ok-asked.ensures in
    IfOk-weaker c.job_answer.result _ _
    (λ answer replied. ToolReply.replied asked.job asked.names.now c.as_slice.result.now answer asks (rw c.as_slice.ensures c.in-Ok.ensures.fetched) replied)
    c.job_answer.ensures

pub returns-in-Err-Failed-clause-answered : goal.returns-in-Err-Failed-clause-answered
returns-in-Err-Failed-clause-answered g c =
    let asked = c.in-Some.asked in
    let asks = rw c.in-Some.is at c.in_ok-asked.ensures in
    let cannot = c.in-Err-Failed.ensures.failed (ap (λ fault. Err fault) c.in-Err-Failed.field-0-is) in
    IfOk-weaker c.line-in-Err-Failed.result _ _
    (λ answer is. subst (ToolReply c.args.words.now _) (sym is) (ToolReply.read_fault asked.job asked.names.now asks cannot))
    c.line-in-Err-Failed.ensures
