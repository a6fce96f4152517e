use Rattle.std.proofs.Common.{◌≡◌, ◌++◌, map, drop}
use Rattle.fond_oneof.specs.Shown.{shown}
use Rattle.fond_oneof.proofs.list.extend.Given as goal

abbrev pub invariant-loop-entry : goal.invariant-loop-entry
invariant-loop-entry l = map shown l.outcome ++ map shown (drop l.entry-index l.more) ≡ map shown l.initial.outcome ++ map shown l.more
