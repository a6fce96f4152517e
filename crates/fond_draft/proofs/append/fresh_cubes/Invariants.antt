use Rattle.std.proofs.Common.{take}
use Rattle.fond_draft.specs.Appends.{AreFresh}
use Rattle.fond_draft.proofs.append.fresh_cubes.Given as goal

-- the cubes so far that lie in none of the layers were copied
abbrev pub invariant-loop-at : goal.invariant-loop-at
invariant-loop-at l = AreFresh l.layers (take l.at l.layer) l.fresh
