use Rattle.std.proofs.Common.{eq-eqb, arith}
use Rattle.std.proofs.lemmas.Bool.{eqb-true}
use Rattle.fond_state.proofs.Words.{agrees_from, agrees_to}
use Rattle.fond_state.proofs.mask.agrees.Goals as goal

pub returns : goal.returns
returns c = (
  λ is. agrees_from (record { care = c.args.care; sign = c.args.sign }) c.args.truth (eqb-true _ _ is),
  λ told. eq-eqb _ _ (agrees_to (record { care = c.args.care; sign = c.args.sign }) c.args.truth (omega (arith, c.ranges.care.fits)) told),
)
