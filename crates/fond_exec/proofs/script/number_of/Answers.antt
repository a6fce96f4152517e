use Rattle.std.proofs.Common.{◌<◌, ◌^◌, arith}
use Rattle.fond_exec.proofs.Numbers.{too_large}
use Rattle.fond_exec.proofs.script.number_of.Goals as goal

pub returns-clause-none : goal.returns-clause-none
returns-clause-none c =
    let fits : c.in_ok-read_number.field-0 < 2 ^ 64 = omega arith in
    rw c.ok.ensures.value (too_large _ c.args.word.now _ _ fits c.in_ok-read_number.ensures c.try_from.ensures)
