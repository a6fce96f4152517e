use Rattle.std.proofs.Common.{arith}
use Rattle.std.proofs.lemmas.Bool.Decides.{nat_tests}
use Rattle.fond_types.proofs.PlaceLemmas.{some_more, some_all}
use Rattle.fond_types.proofs.patterns.places_of.Goals as goal

pub loop-i-preserved : goal.loop-i-preserved
loop-i-preserved c = some_more c.args.terms.now c.loop-i.places c.add_variable.new.places c.loop-i.i c.get.result.now c.get.ensures c.in_ok-add_variable.ensures c.loop-i.invariant

pub returns : goal.returns
returns c = some_all c.args.terms.now c.loop-i.places c.loop-i.i (grind (arith, nat_tests)) c.loop-i.invariant
