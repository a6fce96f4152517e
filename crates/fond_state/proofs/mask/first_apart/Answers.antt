use Rattle.fond_state.proofs.Apart.{same_literal, other_literal}
use Rattle.fond_state.proofs.mask.first_apart.Goals as goal

pub returns-clause-same : goal.returns-clause-same
returns-clause-same c = λ place le lt. same_literal c.args.mask c.args.other place (c.first_set.ensures.clear place le lt)

pub returns-clause-differs : goal.returns-clause-differs
returns-clause-differs c = λ lt. other_literal c.args.mask c.args.other c.first_set.result (c.first_set.ensures.set lt)
