use Rattle.std.proofs.Common.{take}
use Rattle.fond_draft.specs.Appends.{HaveGrown}
use Rattle.fond_draft.proofs.append.append_layers.Given as goal

-- the layers have grown by the further layers so far
abbrev pub invariant-loop-at : goal.invariant-loop-at
invariant-loop-at l = HaveGrown l.t l.initial.layers (take l.at l.more) l.layers
