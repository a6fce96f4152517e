-- Members were read, and the others follow; a node has fewer parentheses left for its members.
use Rattle.std.proofs.Common.{◌≡◌, ◌+◌, ◌*◌, length}
use Rattle.fond_tree.specs.Scanning.{marks_left, end_left}
use Rattle.fond_tree.proofs.Members.{Along}
use Rattle.fond_tree.proofs.read.+reading.Given as goal

abbrev pub decreases-read_members : goal.decreases-read_members
decreases-read_members l = 2 * l.left + 1

abbrev pub decreases-read_next : goal.decreases-read_next
decreases-read_next l = 2 * l.left

abbrev pub invariant-read_members-loop-alloc : goal.invariant-read_members-loop-alloc
invariant-read_members-loop-alloc l = record {
  along : Along l.left (marks_left l.initial.scanner) l.members.items (marks_left l.scanner);
  end : end_left l.scanner ≡ end_left l.initial.scanner;
}

abbrev pub decreases-read_members-loop-alloc : goal.decreases-read_members-loop-alloc
decreases-read_members-loop-alloc l = length (marks_left l.scanner)
