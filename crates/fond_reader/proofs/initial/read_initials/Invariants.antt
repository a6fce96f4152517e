use Rattle.std.proofs.Common.{drop}
use Rattle.fond_tree.specs.declared.role.Role.TheVariants.{Initial}
use Rattle.fond_tree.specs.FormFaults.{Fits}
use Rattle.fond_reader.specs.Bodies.{is_initial}
use Rattle.fond_reader.proofs.Through.{Through}
use Rattle.fond_reader.proofs.initial.read_initials.Given as goal

-- the trees so far were read, and those that are left fit
abbrev pub invariant-loop-tree : goal.invariant-loop-tree
invariant-loop-tree l = Through is_initial (Fits Initial) l.trees (drop l.tree-index l.trees) l.init
