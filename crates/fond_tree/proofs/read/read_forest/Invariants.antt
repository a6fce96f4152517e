-- Trees were read, and the tokens after them are left.
use Rattle.std.proofs.Common.{◌≡◌, length}
use Rattle.fond_text.specs.declared.code.TheConstants.{DEEPEST}
use Rattle.fond_tree.specs.Scanning.{marks_left, end_left}
use Rattle.fond_tree.proofs.Members.{Along}
use Rattle.fond_tree.proofs.read.read_forest.Given as goal

abbrev pub invariant-loop-scanner : goal.invariant-loop-scanner
invariant-loop-scanner l = record {
  along : Along DEEPEST (marks_left l.initial.scanner) l.trees.items (marks_left l.scanner);
  end : end_left l.scanner ≡ end_left l.initial.scanner;
}

abbrev pub decreases-loop-scanner : goal.decreases-loop-scanner
decreases-loop-scanner l = length (marks_left l.scanner)
