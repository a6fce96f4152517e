-- The lists around a list are fewer than those with it.
use Rattle.std.specs.Prelude.{◌≤◌, max, length}
use Rattle.std.proofs.Common.{arith}
use Rattle.fond_names.specs.Scopes.{scope_of}
use Rattle.fond_names.specs.declared.scope.Lists.{Lists}
use Rattle.fond_names.specs.declared.scope.Lists.TheVariants.{Nothing, Inside}
use Rattle.fond_names.specs.declared.scope.Around.TheDeep.{deep-Lists}

-- no place is deeper than there are lists around it
pub depth_le-length : (lists : Lists) → max (deep-Lists lists) 0 ≤ length (scope_of lists)
depth_le-length Nothing = omega arith
depth_le-length (Inside variables outer) = omega arith
