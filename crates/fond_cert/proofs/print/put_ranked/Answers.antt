use Rattle.fond_cert.proofs.print.put_ranked.Goals as goal

pub returns-in-Goal : goal.returns-in-Goal
returns-in-Goal g c = rw c.in-Goal.is c.put_line.ensures

pub returns-in-Rule : goal.returns-in-Rule
returns-in-Rule g c = rw c.in-Rule.is c.put_line-in-Rule.ensures
