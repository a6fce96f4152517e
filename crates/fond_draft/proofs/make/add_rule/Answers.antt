use Rattle.std.proofs.Common.{◌≡◌, ◌∙◌, true, sym, subst}
use Rattle.std.proofs.lemmas.Option.{same_Some, slice_get_within}
use Rattle.fond_task.specs.Truth.{is_true}
use Rattle.fond_task.specs.declared.task.Act.{Act}
use Rattle.fond_task.specs.declared.rule.Rule.{Rule}
use Rattle.fond_draft.proofs.Fitting.{fitting_over}
use Rattle.fond_draft.proofs.Made.{ruled_more}
use Rattle.fond_draft.proofs.Sure.{sure_full}
use Rattle.fond_draft.proofs.make.add_rule.Goals as goal

pub targets_of-requires-clause-there : goal.targets_of-requires-clause-there
targets_of-requires-clause-there c =
    let applies = c.requires.ready.applicable in
    slice_get_within c.args.t.now.acts c.args.pick.now.act applies.act applies.numbered

pub targets_of-requires-clause-applicable : goal.targets_of-requires-clause-applicable
targets_of-requires-clause-applicable c = λ act at.
    let applies = c.requires.ready.applicable in
    subst (λ (a : Act). is_true c.args.pick.now.state a.pre ≡ true) (same_Some applies.act act (sym applies.numbered ∙ at)) applies.holds

pub targets_of-requires-clause-has : goal.targets_of-requires-clause-has
targets_of-requires-clause-has c = c.requires.ready.targets

pub lean_condition-requires-clause-there : goal.lean_condition-requires-clause-there
lean_condition-requires-clause-there c =
    let applies = c.requires.ready.applicable in
    slice_get_within c.args.t.now.acts c.args.pick.now.act applies.act applies.numbered

pub lean_condition-requires-clause-pairs_over : goal.lean_condition-requires-clause-pairs_over
lean_condition-requires-clause-pairs_over c = fitting_over c.args.t.now c.args.draft.now.layers c.args.draft.now.pairs c.requires.draft.pairs

pub lean_condition-requires-clause-sure : goal.lean_condition-requires-clause-sure
lean_condition-requires-clause-sure c =
    let draft = c.args.draft.now in
    sure_full c.args.t.now draft.pairs draft.rules c.requires.draft.rules.belong c.args.pick.now c.requires.ready c.in_ok-targets.targets c.requires.unbarred (λ act at. c.in_ok-targets.ensures.targets act at)

pub returns-clause-ruled : goal.returns-clause-ruled
returns-clause-ruled c =
    let told = c.in_ok-cond.ensures in
    let rule : Rule = record { cond = c.in_ok-cond.cond; act = c.args.pick.now.act; targets = c.in_ok-targets.targets } in
    ruled_more c.args.t.now c.args.draft.now c.push_rule.new.self c.args.pick.now.state rule c.requires.draft told.over told.holds told.lean c.in_ok-push_rule.ensures
