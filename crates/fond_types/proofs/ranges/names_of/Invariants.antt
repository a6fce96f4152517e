use Rattle.std.proofs.Common.{◌≡◌, ◌++◌, drop}
use Rattle.fond_names.specs.Same.{kind_names}
use Rattle.fond_types.proofs.ranges.names_of.Given as goal

-- the names so far and those that are left are all
abbrev pub invariant-loop-i : goal.invariant-loop-i
invariant-loop-i l = l.names ++ kind_names (drop l.i l.kinds) ≡ kind_names l.kinds
