use Rattle.std.proofs.Common.{drop}
use Rattle.std.specs.Option.{option_copied}
use Rattle.fond_reader.proofs.Pushed.{Pushes}
use Rattle.fond_reader.proofs.typed.push_leaves.Given as goal

-- declarations of the leaves so far were added, and the leaves that are left fit
abbrev pub invariant-loop-leaf : goal.invariant-loop-leaf
invariant-loop-leaf l = Pushes l.fn.sort (option_copied l.fn.kind) l.leaves (drop l.leaf-index l.leaves) l.initial.names l.names
