use Rattle.std.proofs.Common.{◌≡◌}
use Rattle.fond_text.specs.Lists.{Somewhere}
use Rattle.fond_text.specs.declared.code.TheConstants.{TOO_MANY_ACTIONS}
use Rattle.fond_text.specs.declared.fault.Fault.{Fault}
use Rattle.fond_ground.specs.Faults.{at_domain, HasManyActions, IsGroundFault}
use Rattle.fond_ground.specs.Limits.{IsFirstMany}
use Rattle.fond_ground.proofs.Actions.{handed_on, refuses_map}
use Rattle.fond_ground.proofs.Refusals.{refused_actions, refused_outcomes}
use Rattle.fond_ground.proofs.ground.few_acts.Goals as goal

pub returns-in_err-lists-clause-refused : goal.returns-in_err-lists-clause-refused
returns-in_err-lists-clause-refused c =
    let task = c.args.table.now.facts.task.now in
    handed_on _ _ _ c.from_residual.ensures.1
    (refuses_map (λ (fault : Fault). (fault ≡ at_domain task.place TOO_MANY_ACTIONS) × HasManyActions task) (IsGroundFault task) (refused_actions task c.requires.few) _ c.in_err-lists.ensures.many)

pub returns-in_err-few_outcomes-clause-refused : goal.returns-in_err-few_outcomes-clause-refused
returns-in_err-few_outcomes-clause-refused c =
    let task = c.args.table.now.facts.task.now in
    handed_on _ _ _ c.from_residual-in_err-few_outcomes.ensures.1
    (refuses_map (λ (fault : Fault). Somewhere (IsFirstMany task fault) task.schemas) (IsGroundFault task) (refused_outcomes task c.requires.few c.in_ok-lists.ensures.lists.1) _ c.in_err-few_outcomes.ensures.many)

pub returns-clause-acts : goal.returns-clause-acts
returns-clause-acts c = record {
  each = c.in_ok-acts.ensures.acts;
  within = c.in_ok-acts.ensures.within;
  few = c.in_ok-lists.ensures.lists.1;
  few_outcomes = c.in_ok-few_outcomes.ensures.few;
}
