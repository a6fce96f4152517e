use Rattle.std.proofs.Common.{◌≡◌, length, take}
use Rattle.fond_names.specs.Same.{kind_names}
use Rattle.fond_types.proofs.ranges.are_names_of.Given as goal

-- the names so far are those of the types so far
abbrev pub invariant-loop-i : goal.invariant-loop-i
invariant-loop-i l = record {
  same : take l.i l.names ≡ kind_names (take l.i l.kinds);
  long : length l.names ≡ length l.kinds;
}
