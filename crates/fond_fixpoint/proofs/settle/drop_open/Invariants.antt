use Rattle.std.proofs.Common.{◌≡◌, ◌++◌, take, drop, map}
use Rattle.fond_fixpoint.specs.Rounds.{dropped}
use Rattle.fond_fixpoint.proofs.settle.drop_open.Given as goal

abbrev pub invariant-loop-fate : goal.invariant-loop-fate
invariant-loop-fate l = l.fates ≡ map (dropped l.round) (take l.fate-index l.fn.fates) ++ drop l.fate-index l.fn.fates
