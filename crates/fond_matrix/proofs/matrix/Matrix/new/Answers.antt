use Rattle.std.proofs.Common.{arith}
use Rattle.fond_matrix.proofs.Cubes.{no_bits, no_cubes}
use Rattle.fond_matrix.proofs.matrix.Matrix.new.Goals as goal

pub invariant_of-result : goal.invariant_of-result
invariant_of-result c = (
  no_bits c.new-3.result c.new-2.result.items c.new-2.ensures.items c.new-3.ensures,
  omega (arith, c.new-2.ensures.len, c.new-2.result.ok.0),
  c.in_ok-nothing.ensures,
)

pub returns : goal.returns
returns c = no_cubes c.new-3.result c.new-2.result.items c.new-2.ensures.items
