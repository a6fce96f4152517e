use Rattle.std.proofs.Common.{sym, subst}
use Rattle.std.proofs.lemmas.Result.{IfOk-weaker}
use Rattle.fond_ast.specs.Laws.{AgreeOnVariables, has_variable}
use Rattle.fond_task.specs.declared.form.Form.{Form}
use Rattle.fond_ground.specs.Shares.{IsGroundBy}
use Rattle.fond_ground.specs.Values.{StandsFor}
use Rattle.fond_ground.proofs.Shared.{agree_by, shared_pre, some_at}
use Rattle.fond_ground.proofs.acts.pre_of.Goals as goal

pub returns-then-agree-clause-value : goal.returns-then-agree-clause-value
returns-then-agree-clause-value c =
    let task = c.args.table.now.facts.task.now in
    let schema = c.args.parameters.now.schema.now in
    let act = c.in-Some.act.now in
    let env = c.args.env.now.items in
    let from : IsGroundBy task schema act = some_at _ c.in-Some.is c.requires in
    let agree : AgreeOnVariables schema.pre env act.ground.objects =
    agree_by (λ number. has_variable number schema.pre) c.args.parameters.now.pre.items c.deref.result.now env act.ground.objects c.deref-in-Some.result.now c.as_slice.result.now c.args.parameters.now.pre_marked
    c.deref.ensures.value c.deref-in-Some.ensures.value c.as_slice.ensures (c.agree.ensures c.if-agree.true (λ number. has_variable number schema.pre)) in
    IfOk-weaker c.share.result _ (StandsFor task env schema.pre)
    (λ shared same. subst (λ (form : Form). StandsFor task env schema.pre form) (sym same) (shared_pre task schema.pre env act.ground.objects act.pre agree from.pre)) c.share.ensures
