use Rattle.std.proofs.Common.{sym}
use Rattle.fond_cert.proofs.Words.{act_means}
use Rattle.fond_cert.proofs.target.read_act.Goals as goal

pub returns-in-Some-clause-read : goal.returns-in-Some-clause-read
returns-in-Some-clause-read c = act_means c.args.index.now c.args.action.at c.args.action.text.now c.in-Some.act c.requires (sym c.in-Some.ensures)
