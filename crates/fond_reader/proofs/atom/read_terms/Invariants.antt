use Rattle.std.proofs.Common.{drop}
use Rattle.fond_tree.specs.declared.role.Role.TheVariants.{Term}
use Rattle.fond_tree.specs.FormFaults.{Fits}
use Rattle.fond_reader.specs.Bodies.{is_term}
use Rattle.fond_reader.proofs.Through.{Through}
use Rattle.fond_reader.proofs.atom.read_terms.Given as goal

-- the terms so far were read, and the trees that are left fit
abbrev pub invariant-loop-tree : goal.invariant-loop-tree
invariant-loop-tree l = Through is_term (Fits Term) l.trees (drop l.tree-index l.trees) l.terms
