use Rattle.std.proofs.Common.{◌∙◌, refl, sym}
use Rattle.std.proofs.lemmas.Bool.{true≢false}
use Rattle.fond_draft.proofs.Turned.{turn_applies, turn_long}
use Rattle.fond_draft.proofs.turn.is_ready.Goals as goal

pub returns-clause-ready : goal.returns-clause-ready
returns-clause-ready c = λ yes. record {
  long = turn_long c.args.t.now c.args.turn.now c.requires.turn;
  applicable = turn_applies c.args.t.now c.args.turn.now c.requires.turn;
  targets = c.if-not-has_targets.ensures.has refl;
}

pub returns-clause-not_ready : goal.returns-clause-not_ready
returns-clause-not_ready c = λ no ready all. true≢false (sym (c.in_ok-free.ensures.1 all) ∙ no)

pub returns-then-not-has_targets-clause-not_ready : goal.returns-then-not-has_targets-clause-not_ready
returns-then-not-has_targets-clause-not_ready c = λ no ready all.
    let applies = ready.applicable in
    c.has_targets.ensures.none c.if-not-has_targets.true applies.act applies.numbered (ready.targets applies.act applies.numbered)
