use Rattle.fond_text.proofs.Outs.{adds_same}
use Rattle.fond_cert.proofs.Printed.{best_spelling_is}
use Rattle.fond_cert.proofs.print.put_best.Goals as goal

pub returns : goal.returns
returns g c =
    let last = g.met.O.Out.adds_then _ _ _ _ _ c.put_line-2.ensures (g.met.O.Out.adds_then _ _ _ _ _ c.put_all-4.ensures c.put_end.ensures) in
    let rest = g.met.O.Out.adds_then _ _ _ _ _ c.put_all-2.ensures (g.met.O.Out.adds_then _ _ _ _ _ c.put_all-3.ensures last) in
    adds_same g.O.Out.adds (best_spelling_is c.args.task.now c.args.cert.now) (g.met.O.Out.adds_then _ _ _ _ _ c.put_line.ensures (g.met.O.Out.adds_then _ _ _ _ _ c.put_all.ensures rest))
