use Rattle.std.proofs.Common.{◌≡◌, ◌++◌, drop}
use Rattle.fond_types.specs.Kept.{numbers_of, range_by}
use Rattle.fond_names.specs.Names.{objects_declared}
use Rattle.fond_names.specs.Same.{kind_names}
use Rattle.fond_types.proofs.ranges.made_range.Given as goal

-- the objects so far and those that are left make the range
abbrev pub invariant-loop-i : goal.invariant-loop-i
invariant-loop-i l =
    let files = l.table in
    l.range ++ numbers_of files.domain.kinds (kind_names l.kinds) l.i (drop l.i (objects_declared files)) ≡ range_by files (kind_names l.kinds)
