use Rattle.std.proofs.Common.{refl}
use Rattle.std.proofs.lemmas.Bool.{false≢true}
use Rattle.fond_policy.specs.Altered.{altered}
use Rattle.fond_policy.proofs.sure.is_sure_beside.Goals as goal

pub returns-then-is_beaten-clause-decides : goal.returns-then-is_beaten-clause-decides
returns-then-is_beaten-clause-decides g c = λ item has.
    (λ e. absurd (false≢true e), λ sure. absurd (c.if-is_beaten.ensures refl item (altered c.args.items.now c.args.at c.args.scratch.now.cube) has sure))
