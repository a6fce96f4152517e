use Rattle.std.proofs.Common.{ℕ, sym, subst}
use Rattle.fond_state.specs.Cubes.{CubeLiesIn, full_cube}
use Rattle.fond_task.specs.Layers.{CubeView}
use Rattle.fond_task.specs.Rules.{IsSureRule}
use Rattle.fond_rules.specs.Leans.{IsLean}
use Rattle.fond_regress.proofs.Cubes.{lies_by_full}
use Rattle.fond_regress.proofs.condition.lean_condition.Goals as goal

pub shorten_from-requires-clause-passes : goal.shorten_from-requires-clause-passes
shorten_from-requires-clause-passes c =
    let Sure : ℕ → CubeView → Type 0 = λ number cond. IsSureRule c.args.t.now c.args.pairs.now c.args.rules.now number (record { cond = cond; act = c.args.act; targets = c.args.targets.now }) in
    let at_end = subst (λ number. Sure number (full_cube c.args.s.now)) (sym c.len-2.ensures) c.requires.sure in
    subst (Sure c.len-2.result) (sym c.in_ok-full.ensures) at_end

pub returns-clause-holds : goal.returns-clause-holds
returns-clause-holds c =
    let cond = c.shorten_from.new.cond in
    let Lies : CubeView → Type 0 = λ full. CubeLiesIn full cond in
    lies_by_full c.args.s.now cond (subst Lies c.in_ok-full.ensures c.shorten_from.ensures.lies)

pub returns-clause-lean : goal.returns-clause-lean
returns-clause-lean c =
    let Sure : ℕ → CubeView → Type 0 = λ number cond. IsSureRule c.args.t.now c.args.pairs.now c.args.rules.now number (record { cond = cond; act = c.args.act; targets = c.args.targets.now }) in
    let lean = subst (λ number. IsLean (Sure number) c.shorten_from.new.cond) c.len-2.ensures c.shorten_from.ensures.lean in
    record { sure = lean.passes; needs = lean.needed }
