use Rattle.std.proofs.Common.{None}
use Rattle.fond_edge.proofs.Puts.{on_err, lost_part, lost_rose, sent_whole, sent_part, sent_rose}
use Rattle.fond_cert.proofs.print.write_best.Goals as goal

pub returns-in_err-send_best-clause-part : goal.returns-in_err-send_best-clause-part
returns-in_err-send_best-clause-part g c = on_err _ (lost_part _ _ _ c.new-pen.ensures c.in_err-send_best.ensures.err)

pub returns-in_err-send_best-clause-rose : goal.returns-in_err-send_best-clause-rose
returns-in_err-send_best-clause-rose g c = on_err _ (lost_rose _ _ _ c.new-pen.ensures c.in_err-send_best.ensures.err)

pub returns-clause-ok : goal.returns-clause-ok
returns-clause-ok g c = sent_whole _ _ _ c.new-pen.ensures _ 0 c.in_ok-send_best.ensures.ok _ c.finish.ensures.ok

pub returns-clause-part : goal.returns-clause-part
returns-clause-part g c = sent_part _ _ _ c.new-pen.ensures _ 0 c.in_ok-send_best.ensures.ok _ c.finish.ensures.part

pub returns-clause-rose : goal.returns-clause-rose
returns-clause-rose g c = sent_rose _ _ _ c.new-pen.ensures None _ c.in_ok-send_best.ensures.ok _ c.finish.ensures.rose
