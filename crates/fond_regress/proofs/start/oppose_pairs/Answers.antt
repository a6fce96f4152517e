use Rattle.std.proofs.Common.{arith}
use Rattle.std.proofs.lemmas.Grind.{elements}
use Rattle.fond_regress.proofs.start.oppose_pairs.Goals as goal

pub contradicts-requires : goal.contradicts-requires
contradicts-requires c = grind (arith, elements)

pub loop-i-preserved : goal.loop-i-preserved
loop-i-preserved c = grind (arith, elements)
