use Rattle.std.proofs.Common.{◌*◌}
use Rattle.fond_state.proofs.Apart.{AreSame}
use Rattle.fond_state.proofs.cube.Cube.first_difference.Given as goal

abbrev pub invariant-loop-i : goal.invariant-loop-i
invariant-loop-i l = AreSame l.self-inside.masks.items l.d-inside.masks.items l.from (64 * l.i)
