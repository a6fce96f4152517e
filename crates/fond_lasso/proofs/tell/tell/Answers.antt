use Rattle.fond_lasso.proofs.tell.tell.Goals as goal

pub returns : goal.returns
returns g c = c.told_of.ensures _ _ c.in_ok-finding.ensures
