use Rattle.std.proofs.Common.{◌≡◌, true, take}
use Rattle.fond_types.specs.Patterns.{are_filed}
use Rattle.fond_types.proofs.patterns.file_patterns.Given as goal

-- the patterns so far are filed
abbrev pub invariant-loop-i : goal.invariant-loop-i
invariant-loop-i l = are_filed l.table (take l.i l.table.side.patterns) l.filed.items ≡ true
