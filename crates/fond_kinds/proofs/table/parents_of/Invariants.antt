use Rattle.std.proofs.Common.{◌≡◌, ◌++◌, map, drop}
use Rattle.fond_kinds.proofs.Numbers.{parent_number}
use Rattle.fond_kinds.proofs.table.parents_of.Given as goal

abbrev pub invariant-loop-first : goal.invariant-loop-first
invariant-loop-first l = l.parents.items ++ map (parent_number l.types l.numbers) (drop l.first-index l.firsts) ≡ map (parent_number l.types l.numbers) l.firsts
