use Rattle.std.proofs.Common.{drop}
use Rattle.fond_tree.specs.declared.role.Role.TheVariants.{Predicate}
use Rattle.fond_tree.specs.FormFaults.{Fits}
use Rattle.fond_reader.specs.Files.{is_declared}
use Rattle.fond_reader.proofs.Through.{Through}
use Rattle.fond_reader.proofs.initial.read_predicates.Given as goal

-- the trees so far were read, and those that are left fit
abbrev pub invariant-loop-tree : goal.invariant-loop-tree
invariant-loop-tree l = Through is_declared (Fits Predicate) l.trees (drop l.tree-index l.trees) l.predicates
