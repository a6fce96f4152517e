use Rattle.std.proofs.Common.{◌≡◌, length}
use Rattle.fond_reader.specs.Files.{values}
use Rattle.fond_reader.proofs.action.value_of.Given as goal

-- the values of the key are among the pairs that are left
abbrev pub invariant-loop-rest : goal.invariant-loop-rest
invariant-loop-rest l = values l.key l.rest ≡ values l.key l.pairs

abbrev pub decreases-loop-rest : goal.decreases-loop-rest
decreases-loop-rest l = length l.rest
