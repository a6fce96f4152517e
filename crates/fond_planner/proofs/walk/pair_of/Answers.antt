use Rattle.std.proofs.Common.{◌≡◌, ap, arith}
use Rattle.fond_task.specs.declared.rule.Pair.{Pair}
use Rattle.fond_planner.proofs.Barred.{dead_pair}
use Rattle.fond_planner.proofs.Walked.{state_long}
use Rattle.fond_planner.proofs.walk.pair_of.Goals as goal

pub lean_pair-requires-clause-long : goal.lean_pair-requires-clause-long
lean_pair-requires-clause-long c = state_long c.args.t.now c.args.step.now c.requires.step

pub lean_pair-requires-clause-sure : goal.lean_pair-requires-clause-sure
lean_pair-requires-clause-sure c = dead_pair c.args.t.now c.args.step.now c.args.layers.now c.args.layer c.args.cube c.requires.step c.requires.over c.requires.dead

pub returns-clause-fitting : goal.returns-clause-fitting
returns-clause-fitting c =
    let told = c.in_ok-pair.ensures in
    let pair = c.in_ok-pair.pair in
    let outcome : pair.outcome ≡ c.args.step.now.outcome = ap (λ (p : Pair). p.outcome) told.same in
    let layer : pair.layer ≡ c.args.layer = ap (λ (p : Pair). p.layer) told.same in
    let cube : pair.cube ≡ c.args.cube = ap (λ (p : Pair). p.cube) told.same in
    record { over = told.over; lean = told.lean; small = (omega (arith, outcome), omega (arith, layer), omega (arith, cube)) }

pub returns-clause-bars : goal.returns-clause-bars
returns-clause-bars c = (ap (λ (p : Pair). p.act) c.in_ok-pair.ensures.same, c.in_ok-pair.ensures.holds)
