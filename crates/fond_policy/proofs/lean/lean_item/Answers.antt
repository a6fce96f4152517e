use Rattle.fond_policy.proofs.lean.lean_item.Goals as goal

pub returns-clause-decides : goal.returns-clause-decides
returns-clause-decides g c = λ item has.
    let needs = c.needs_all.ensures.decides item has in (
      λ e. record { sure = (c.sure_item.ensures.decides item has).0 c.if-not-sure_item.false; needs = needs.0 e },
      λ lean. needs.1 lean.needs,
    )
