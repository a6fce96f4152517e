use Rattle.std.proofs.Common.{◌≡◌, ◌∙◌, List, true, nat_le, length, sym, ap, subst}
use Rattle.std.specs.List.{list_all}
use Rattle.std.proofs.lemmas.Result.{IfOk-weaker}
use Rattle.fond_text.specs.declared.code.TheConstants.{MOST_OUTCOMES}
use Rattle.fond_ast.specs.Outcomes.{outcomes}
use Rattle.fond_task.specs.Within.{is_entry_within}
use Rattle.fond_task.specs.declared.task.Entry.{Entry}
use Rattle.fond_ground.specs.Atoms.{fluent_atoms}
use Rattle.fond_ground.specs.Grounds.{AreOutcomesOf}
use Rattle.fond_ground.specs.Shares.{AgreeOnEffect, IsGroundBy, has_effect_variable}
use Rattle.fond_ground.proofs.Actions.{outcomes_stand, count_same, within_most}
use Rattle.fond_ground.proofs.Shared.{agree_by, shared_outcomes, some_at}
use Rattle.fond_ground.proofs.acts.effects_of.Goals as goal

pub outcomes_of-requires-clause-few : goal.outcomes_of-requires-clause-few
outcomes_of-requires-clause-few c =
    let task = c.args.table.now.facts.task.now in
    let effect = c.args.parameters.now.schema.now.effect in
    within_most _ MOST_OUTCOMES (ap (λ n. nat_le n MOST_OUTCOMES) (sym (count_same task (outcomes c.args.env.now.items effect) c.in_ok-effect.effect c.in_ok-effect.ensures.effect)) ∙ c.requires.few)

pub returns-then-agree-clause-listed : goal.returns-then-agree-clause-listed
returns-then-agree-clause-listed c =
    let task = c.args.table.now.facts.task.now in
    let effect = c.args.parameters.now.schema.now.effect in
    let act = c.in-Some.act.now in
    let env = c.args.env.now.items in
    let from : IsGroundBy task c.args.parameters.now.schema.now act = some_at _ c.in-Some.is c.requires.other in
    let agree : AgreeOnEffect effect env act.ground.objects =
    agree_by (λ number. has_effect_variable number effect) c.args.parameters.now.effect.items c.deref.result.now env act.ground.objects c.deref-in-Some.result.now c.as_slice.result.now c.args.parameters.now.effect_marked
    c.deref.ensures.value c.deref-in-Some.ensures.value c.as_slice.ensures (c.agree.ensures c.if-agree.true (λ number. has_effect_variable number effect)) in
    IfOk-weaker c.share.result _ (AreOutcomesOf task (outcomes env effect))
    (λ shared same. subst (λ (all : List (List Entry)). AreOutcomesOf task (outcomes env effect) all) (sym same) (shared_outcomes task effect env act.ground.objects act.outcomes agree from.outcomes)) c.share.ensures

pub returns-clause-listed : goal.returns-clause-listed
returns-clause-listed c =
    let task = c.args.table.now.facts.task.now in
    let lists = outcomes c.args.env.now.items c.args.parameters.now.schema.now.effect in
    IfOk-weaker c.new.result _ (AreOutcomesOf task lists)
    (λ shared same. subst (λ (all : List (List Entry)). AreOutcomesOf task lists all) (sym same) (outcomes_stand task lists c.in_ok-effect.effect c.in_ok-outcomes_of.field-0 c.in_ok-effect.ensures.effect c.in_ok-outcomes_of.ensures.listed)) c.new.ensures

pub returns-clause-within : goal.returns-clause-within
returns-clause-within c =
    let atoms = length (fluent_atoms c.args.table.now.facts.task.now) in
    IfOk-weaker c.new.result _ (λ all. list_all (list_all (is_entry_within atoms)) all ≡ true)
    (λ shared same. ap (list_all (list_all (is_entry_within atoms))) same ∙ c.in_ok-outcomes_of.ensures.within atoms c.in_ok-effect.ensures.effect.over) c.new.ensures
