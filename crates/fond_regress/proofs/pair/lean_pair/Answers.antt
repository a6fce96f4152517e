use Rattle.std.proofs.Common.{sym, subst}
use Rattle.fond_state.specs.Cubes.{CubeLiesIn, full_cube}
use Rattle.fond_task.specs.declared.rule.Pair.{Pair}
use Rattle.fond_task.specs.Layers.{CubeView}
use Rattle.fond_rules.specs.Targets.{LeadsInto}
use Rattle.fond_rules.proofs.SureTargets.{lean_if_leads, leads_if_sure}
use Rattle.fond_regress.proofs.Cubes.{lies_by_full}
use Rattle.fond_regress.proofs.pair.lean_pair.Goals as goal

pub shorten_from-requires-clause-passes : goal.shorten_from-requires-clause-passes
shorten_from-requires-clause-passes c =
    let named = c.named-dead.ensures.named in
    let pair : CubeView → Pair = λ cond. record { cond = cond; act = c.args.act; outcome = c.args.outcome; layer = c.args.layer; cube = c.args.cube } in
    let Leads : CubeView → Type 0 = λ cond. LeadsInto c.args.t.now c.named-dead.result.now (pair cond) in
    subst Leads (sym c.in_ok-full.ensures) (leads_if_sure c.args.t.now c.args.layers.now named.0 c.named-dead.result.now (pair (full_cube c.args.s.now)) named.1 named.2 c.requires.sure)

pub returns-clause-holds : goal.returns-clause-holds
returns-clause-holds c =
    let cond = c.shorten_from.new.cond in
    let Lies : CubeView → Type 0 = λ full. CubeLiesIn full cond in
    lies_by_full c.args.s.now cond (subst Lies c.in_ok-full.ensures c.shorten_from.ensures.lies)

pub returns-clause-lean : goal.returns-clause-lean
returns-clause-lean c =
    let named = c.named-dead.ensures.named in
    let pair : Pair = record { cond = c.shorten_from.new.cond; act = c.args.act; outcome = c.args.outcome; layer = c.args.layer; cube = c.args.cube } in
    lean_if_leads c.args.t.now c.args.layers.now named.0 c.named-dead.result.now pair named.1 named.2 c.shorten_from.ensures.lean
