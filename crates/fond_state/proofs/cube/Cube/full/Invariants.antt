use Rattle.std.proofs.Common.{◌≡◌, ◌-◌, ◌*◌}
use Rattle.fond_state.proofs.Changed.{AreFull}
use Rattle.fond_state.proofs.cube.Cube.full.Given as goal

abbrev pub invariant-loop-word : goal.invariant-loop-word
invariant-loop-word l = (l.left ≡ l.s-inside.atoms - 64 * l.word-index) × AreFull l.s-inside.words.items l.s-inside.atoms l.masks.items l.word-index
