use Rattle.fond_succ.proofs.Between.{outcomes-lead-alike}
use Rattle.fond_succ.proofs.laws.outcomes_lead_alike.Goals as goal

pub returns : goal.returns
returns c = outcomes-lead-alike
