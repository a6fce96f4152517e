use Rattle.std.proofs.Common.{subst}
use Rattle.std.proofs.lemmas.Option.{slice_get_within}
use Rattle.fond_task.proofs.Lists.{Contains_numbered}
use Rattle.fond_draft.specs.Targets.{HasRule}
use Rattle.fond_draft.proofs.Lists.{read_at}
use Rattle.fond_draft.proofs.Plans.{choice_of_state}
use Rattle.fond_planner.proofs.find.make_found.Goals as goal

pub make_rules-requires-clause-plan : goal.make_rules-requires-clause-plan
make_rules-requires-clause-plan c =
    let own = c.plan-item.result in
    c.requires.plans own (Contains_numbered c.args.plans.now c.loop-plan.plan-index own (read_at c.args.plans.now c.loop-plan.plan-index own c.loop-plan-test.true c.plan-item.is))

pub make_rules-requires-clause-there : goal.make_rules-requires-clause-there
make_rules-requires-clause-there c =
    let own = c.plan-item.result in
    let is = c.requires.plans own (Contains_numbered c.args.plans.now c.loop-plan.plan-index own (read_at c.args.plans.now c.loop-plan.plan-index own c.loop-plan-test.true c.plan-item.is)) in
    let one = choice_of_state c.args.t.now own is c.in-Some.number c.args.state.now c.in-Some.ensures in
    slice_get_within own.choices c.in-Some.number one.0 one.1

pub returns-in-Some-clause-draft : goal.returns-in-Some-clause-draft
returns-in-Some-clause-draft c =
    let own = c.plan-item.result in
    let is = c.requires.plans own (Contains_numbered c.args.plans.now c.loop-plan.plan-index own (read_at c.args.plans.now c.loop-plan.plan-index own c.loop-plan-test.true c.plan-item.is)) in
    let one = choice_of_state c.args.t.now own is c.in-Some.number c.args.state.now c.in-Some.ensures in
    (c.in_ok-make_rules.ensures.ruled one.0 one.1).draft

pub returns-in-Some-clause-ruled : goal.returns-in-Some-clause-ruled
returns-in-Some-clause-ruled c = λ found.
    let own = c.plan-item.result in
    let is = c.requires.plans own (Contains_numbered c.args.plans.now c.loop-plan.plan-index own (read_at c.args.plans.now c.loop-plan.plan-index own c.loop-plan-test.true c.plan-item.is)) in
    let one = choice_of_state c.args.t.now own is c.in-Some.number c.args.state.now c.in-Some.ensures in
    subst (HasRule c.make_rules.new.draft.rules) one.2 (c.in_ok-make_rules.ensures.ruled one.0 one.1).has
