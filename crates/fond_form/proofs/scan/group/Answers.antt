use Rattle.std.proofs.Common.{sym}
use Rattle.fond_form.proofs.Groups.{no_group, found_group, rest_within}
use Rattle.fond_form.proofs.scan.group.Goals as goal

pub returns-in_err-rest : goal.returns-in_err-rest
returns-in_err-rest c = let h = no_group _ _ c.in_ok-after.ensures (sym c.in_err-rest.ensures) in rw c.from_residual-in_err-rest.ensures h

pub slice_bounds-result-count : goal.slice_bounds-result-count
slice_bounds-result-count c = rest_within _ _ _ c.in_ok-after.ensures (sym c.in_ok-rest.ensures)

pub returns : goal.returns
returns c = found_group _ _ _ c.in_ok-after.ensures (sym c.in_ok-rest.ensures)
