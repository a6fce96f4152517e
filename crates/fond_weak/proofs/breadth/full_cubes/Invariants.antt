use Rattle.std.proofs.Common.{◌≡◌, map, take}
use Rattle.fond_state.specs.Cubes.{full_cube}
use Rattle.fond_weak.proofs.breadth.full_cubes.Given as goal

abbrev pub invariant-loop-number : goal.invariant-loop-number
invariant-loop-number l = l.layer ≡ map full_cube (take l.number l.states)
