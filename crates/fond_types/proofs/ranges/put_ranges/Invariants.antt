use Rattle.std.proofs.Common.{◌≡◌, true, take}
use Rattle.fond_types.specs.Kept.{are_kept}
use Rattle.fond_types.specs.Meanings.{meanings}
use Rattle.fond_types.specs.Resolves.{are_ranges}
use Rattle.fond_types.proofs.ranges.put_ranges.Given as goal

-- the ranges so far are those of the names so far
abbrev pub invariant-loop-i : goal.invariant-loop-i
invariant-loop-i l = record {
  ranges : are_ranges (meanings l.table) (take l.i l.names) l.ranges ≡ true;
  sound : are_kept l.table l.kept.entries.items ≡ true;
}
