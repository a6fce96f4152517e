use Rattle.std.proofs.Common.{◌<◌, ◌^◌, arith}
use Rattle.fond_form.proofs.Numbers.{no_value, value_is}
use Rattle.fond_form.proofs.word.number.Goals as goal

pub returns-in_err-read_number-clause-value : goal.returns-in_err-read_number-clause-value
returns-in_err-read_number-clause-value c = rw c.from_residual.ensures (no_value c.args.digits.now c.requires c.in_err-read_number.ensures)

pub returns-clause-value : goal.returns-clause-value
returns-clause-value c =
    let fits : c.in_ok-read_number.field-0 < 2 ^ 64 = omega arith in
    value_is c.args.digits.now c.in_ok-read_number.field-0 fits c.in_ok-read_number.ensures
