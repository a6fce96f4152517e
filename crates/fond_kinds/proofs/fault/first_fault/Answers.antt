use Rattle.std.proofs.Common.{arith}
use Rattle.fond_kinds.proofs.FaultAt.{first_more, first_all}
use Rattle.fond_kinds.proofs.fault.first_fault.Goals as goal

pub loop-i-preserved : goal.loop-i-preserved
loop-i-preserved c = first_more c.args.table.now.types.now c.loop-i.i c.loop-i.first c.fault_at.result c.earlier-first.result c.loop-i.invariant c.fault_at.ensures c.earlier-first.ensures

pub returns : goal.returns
returns c = first_all c.args.table.now.types.now c.loop-i.i c.loop-i.first (omega arith) c.loop-i.invariant
