use Rattle.std.proofs.Common.{subst, Decides}
use Rattle.fond_task.specs.Layers.{CubeView}
use Rattle.fond_task.specs.Rules.{IsSureRule}
use Rattle.fond_rules.specs.Leans.{IsLean}
use Rattle.fond_rules.proofs.sure_rules.lean_rule.Goals as goal

pub returns-clause-decides : goal.returns-clause-decides
returns-clause-decides c =
    let rule = c.args.r.now in
    let Passes : CubeView → Type 0 = λ cond. IsSureRule c.args.t.now c.args.pairs.now c.args.rules.now c.args.number (record rule { cond = cond }) in
    let P : CubeView → Type 0 = λ cond. Decides c.is_lean.result (IsLean Passes cond) in
    let decides = subst P c.copy_from.ensures c.is_lean.ensures.decides in
    (λ e. let lean = decides.0 e in record { sure = lean.passes; needs = lean.needed }, λ lean. decides.1 (record { passes = lean.sure; needed = lean.needs }))
