use Rattle.fond_cert.proofs.print.put_rule.Goals as goal

pub returns-in-One : goal.returns-in-One
returns-in-One g c = rw c.in-One.is c.put_line.ensures

pub returns-in-All : goal.returns-in-All
returns-in-All g c = rw c.in-All.is c.put_line-in-All.ensures
