use Rattle.std.proofs.Common.{subst}
use Rattle.std.proofs.lemmas.Option.{slice_get_within}
use Rattle.fond_draft.specs.Targets.{HasRule}
use Rattle.fond_draft.proofs.Plans.{choice_of_state, start_listed}
use Rattle.fond_planner.proofs.find.make_won.Goals as goal

pub unreachable-requires : goal.unreachable-requires
unreachable-requires c = c.in_default.ensures (start_listed c.args.t.now c.args.plan.now c.requires.plan c.args.state.now c.requires.winning.start c.requires.open)

pub make_rules-requires-clause-there : goal.make_rules-requires-clause-there
make_rules-requires-clause-there c =
    let one = choice_of_state c.args.t.now c.args.plan.now c.requires.plan c.in-Some.number c.args.state.now c.in-Some.ensures in
    slice_get_within c.args.plan.now.choices c.in-Some.number one.0 one.1

pub returns-clause-draft : goal.returns-clause-draft
returns-clause-draft c =
    let one = choice_of_state c.args.t.now c.args.plan.now c.requires.plan c.in-Some.number c.args.state.now c.in-Some.ensures in
    (c.in_ok-make_rules.ensures.ruled one.0 one.1).draft

pub returns-clause-ruled : goal.returns-clause-ruled
returns-clause-ruled c =
    let one = choice_of_state c.args.t.now c.args.plan.now c.requires.plan c.in-Some.number c.args.state.now c.in-Some.ensures in
    subst (HasRule c.make_rules.new.draft.rules) one.2 (c.in_ok-make_rules.ensures.ruled one.0 one.1).has
