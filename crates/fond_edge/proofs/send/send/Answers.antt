use Rattle.std.proofs.Common.{◌<◌, length, arith}
use Rattle.std.proofs.lemmas.Bool.Decides.{nat_tests}
use Rattle.fond_edge.proofs.Progress.{progress_more, progress_part}
use Rattle.fond_edge.proofs.send.send.Goals as goal

pub loop-rest-preserved : goal.loop-rest-preserved
loop-rest-preserved g c =
    (progress_more _ _ _ _ _ _ (omega (arith, c.in-Ok.ensures.most)) c.loop-rest.invariant.0 c.in-Ok.ensures.appended, omega (arith, c.write.ensures.counted, c.loop-rest.invariant.1))

pub returns-in-Err-clause-part : goal.returns-in-Err-clause-part
returns-in-Err-clause-part g c =
    let some : 0 < length c.loop-rest.rest.now = grind (arith, nat_tests) in
    rw c.in-Err.ensures.err (progress_part _ _ _ _ some c.loop-rest.invariant.0)
