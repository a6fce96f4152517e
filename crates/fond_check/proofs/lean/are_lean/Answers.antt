use Rattle.std.proofs.Common.{refl}
use Rattle.fond_check.proofs.lean.are_lean.Goals as goal

pub returns-then-are_pairs_lean-clause-decides : goal.returns-then-are_pairs_lean-clause-decides
returns-then-are_pairs_lean-clause-decides c = (
  λ e. record { pairs_lean = c.if-are_pairs_lean.ensures.decides.0 refl; rules_lean = c.are_rules_lean.ensures.decides.0 e },
  λ lean. c.are_rules_lean.ensures.decides.1 lean.rules_lean,
)
