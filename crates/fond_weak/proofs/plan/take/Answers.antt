use Rattle.std.proofs.Common.{◌∙◌, sym}
use Rattle.std.proofs.lemmas.Bool.{false≢true}
use Rattle.fond_weak.proofs.Lists.{element_at}
use Rattle.fond_weak.proofs.plan.take.Goals as goal

pub returns-clause-taken : goal.returns-clause-taken
returns-clause-taken c = λ may.
    let task = c.args.setting.now.task.now in
    let state = c.args.state.now in
    let step = c.args.step in
    let own = element_at task.acts step.act (c.is_there.ensures.act c.if-not-is_there.false) in
    let outcome = element_at own.0.outcomes step.outcome (c.is_there.ensures.outcome c.if-not-is_there.false own.0 own.1) in
    record {
      act = own.0;
      has_act = own.1;
      applicable = sym (c.applicable.ensures own.0 own.1) ∙ c.if-not-applicable.false;
      free = λ barred. false≢true (sym c.if-is_barred.false ∙ (c.is_barred.ensures state c.in_ok-full.ensures).1 barred);
      entries = outcome.0;
      has_outcome = outcome.1;
      led = c.apply_into.ensures.next own.0 outcome.0 own.1 outcome.1;
    }

pub apply_into-requires-clause-there : goal.apply_into-requires-clause-there
apply_into-requires-clause-there c = c.is_there.ensures.act c.if-not-is_there.false

pub apply_into-requires-clause-outcome_there : goal.apply_into-requires-clause-outcome_there
apply_into-requires-clause-outcome_there c = c.is_there.ensures.outcome c.if-not-is_there.false

pub apply_into-requires-clause-applicable : goal.apply_into-requires-clause-applicable
apply_into-requires-clause-applicable c = λ a at. sym (c.applicable.ensures a at) ∙ c.if-not-applicable.false
