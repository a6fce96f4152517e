use Rattle.std.proofs.Common.{eq-eqb, arith}
use Rattle.std.proofs.lemmas.Bool.{eqb-true}
use Rattle.fond_state.proofs.Words.{includes_from, includes_to}
use Rattle.fond_state.proofs.mask.is_in.Goals as goal

pub returns : goal.returns
returns c = (
  λ is. includes_from (record { care = c.args.care; sign = c.args.sign }) c.args.other (eqb-true _ _ is),
  λ told. eq-eqb _ _ (includes_to (record { care = c.args.care; sign = c.args.sign }) c.args.other (omega (arith, c.ranges.care.fits)) told),
)
