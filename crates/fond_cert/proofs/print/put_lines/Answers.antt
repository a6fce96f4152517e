use Rattle.fond_text.proofs.Outs.{adds_same}
use Rattle.fond_cert.proofs.Printed.{spelling_is}
use Rattle.fond_cert.proofs.print.put_lines.Goals as goal

pub returns-in-Policy : goal.returns-in-Policy
returns-in-Policy g c =
    let rest = g.met.O.Out.adds_then _ _ _ _ _ c.put_all-in-Policy-2.ensures (g.met.O.Out.adds_then _ _ _ _ _ c.put_line-in-Policy.ensures c.put_end.ensures) in
    adds_same g.O.Out.adds (spelling_is c.args.task.now c.args.cert.now _ c.in-Policy.is) (g.met.O.Out.adds_then _ _ _ _ _ c.put_line.ensures (g.met.O.Out.adds_then _ _ _ _ _ c.put_all.ensures (g.met.O.Out.adds_then _ _ _ _ _ c.put_all-in-Policy.ensures rest)))

pub returns-in-Refusal : goal.returns-in-Refusal
returns-in-Refusal g c =
    adds_same g.O.Out.adds (spelling_is c.args.task.now c.args.cert.now _ c.in-Refusal.is) (g.met.O.Out.adds_then _ _ _ _ _ c.put_line-in-Refusal.ensures (g.met.O.Out.adds_then _ _ _ _ _ c.put_all-in-Refusal.ensures c.put_end-in-Refusal.ensures))

pub returns-in-Covered : goal.returns-in-Covered
returns-in-Covered g c =
    let last = g.met.O.Out.adds_then _ _ _ _ _ c.put_all-in-Covered-4.ensures (g.met.O.Out.adds_then _ _ _ _ _ c.put_line-in-Covered-2.ensures c.put_end-in-Covered.ensures) in
    let rest = g.met.O.Out.adds_then _ _ _ _ _ c.put_all-in-Covered-2.ensures (g.met.O.Out.adds_then _ _ _ _ _ c.put_all-in-Covered-3.ensures last) in
    adds_same g.O.Out.adds (spelling_is c.args.task.now c.args.cert.now _ c.in-Covered.is) (g.met.O.Out.adds_then _ _ _ _ _ c.put_line-in-Covered.ensures (g.met.O.Out.adds_then _ _ _ _ _ c.put_all-in-Covered.ensures rest))
