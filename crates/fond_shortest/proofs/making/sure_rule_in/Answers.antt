use Rattle.std.proofs.Common.{ℕ, length, subst}
use Rattle.fond_task.specs.Rules.{IsSureRule}
use Rattle.fond_task.specs.Layers.{CubeView}
use Rattle.fond_shortest.proofs.making.sure_rule_in.Goals as goal

pub lean_condition-requires-clause-sure : goal.lean_condition-requires-clause-sure
lean_condition-requires-clause-sure c =
    let P : ℕ → CubeView → Type 0 = λ number cond. IsSureRule c.args.t.now c.new-pairs.result c.args.rules.now number (record { cond = cond; act = c.args.act; targets = c.args.targets }) in
    let sure : P c.len-3.result c.in_ok-cond.cond = c.sure_rule.ensures.decides.0 c.if-not-sure_rule.false in
    subst (P (length c.args.rules.now)) c.in_ok-cond.ensures (subst (λ number. P number c.in_ok-cond.cond) c.len-3.ensures sure)
