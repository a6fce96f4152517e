use Rattle.std.proofs.Common.{drop}
use Rattle.fond_tree.specs.declared.role.Role.TheVariants.{Name}
use Rattle.fond_tree.specs.FormFaults.{Fits}
use Rattle.fond_reader.specs.Typed.{is_kind}
use Rattle.fond_reader.proofs.Through.{Through}
use Rattle.fond_reader.proofs.typed.read_each_kind.Given as goal

-- the types so far were read, and the names that are left fit
abbrev pub invariant-loop-tree : goal.invariant-loop-tree
invariant-loop-tree l = Through is_kind (Fits Name) l.trees (drop l.tree-index l.trees) l.kinds
