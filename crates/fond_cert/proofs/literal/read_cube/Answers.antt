use Rattle.fond_cert.proofs.CubeTexts.{cube_means, order_refused, literal_error}
use Rattle.fond_cert.proofs.Refusals.{handed_on}
use Rattle.fond_cert.proofs.literal.read_cube.Goals as goal

pub returns-in_err-read-clause-wrong : goal.returns-in_err-read-clause-wrong
returns-in_err-read-clause-wrong c = handed_on _ _ _ c.from_residual.ensures.1 (literal_error c.args.index.now _ _ _ c.in_err-read.ensures.wrong)

pub returns-then-read-clause-read : goal.returns-then-read-clause-read
returns-then-read-clause-read c = cube_means c.args.index.now _ _ _ _ c.in_ok-read.ensures.read c.if-read.true

pub returns-else-read-clause-wrong : goal.returns-else-read-clause-wrong
returns-else-read-clause-wrong c = order_refused c.args.index.now _ _ _ _ c.in_ok-read.ensures.read c.if-read.false
