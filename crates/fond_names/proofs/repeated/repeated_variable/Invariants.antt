use Rattle.std.proofs.Common.{take}
use Rattle.fond_text.specs.Firsts.{IsFirst}
use Rattle.fond_names.specs.Faults.{IsRepeatedVariable}
use Rattle.fond_names.proofs.repeated.repeated_variable.Given as goal

-- the fault is the first among the variables so far
abbrev pub invariant-loop-i : goal.invariant-loop-i
invariant-loop-i l = IsFirst (IsRepeatedVariable (take l.i l.names)) l.first
