use Rattle.fond_draft.proofs.plan.plan_of.Goals as goal

pub states_of-requires : goal.states_of-requires
states_of-requires c = c.requires.2.once

pub returns-clause-plan : goal.returns-clause-plan
returns-clause-plan c = record { from = c.requires.0; long = c.requires.1; winning = c.requires.2; numbered = c.in_ok-states.ensures }
