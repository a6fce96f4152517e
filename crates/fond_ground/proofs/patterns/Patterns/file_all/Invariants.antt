use Rattle.std.proofs.Common.{◌≡◌}
use Rattle.fond_ground.specs.Patterns.{AreFiled, AreSeen}
use Rattle.fond_ground.proofs.patterns.Patterns.file_all.Given as goal

-- the patterns so far are filed
abbrev pub invariant-loop-i : goal.invariant-loop-i
invariant-loop-i l = record {
  same : l.self.all ≡ l.initial.self.all;
  filed : AreFiled l.self.all.now l.i l.self.codes l.self.shapes;
  seen : AreSeen l.self.all.now l.seen l.self.shapes;
}
