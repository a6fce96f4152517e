use Rattle.std.proofs.Common.{◌+◌, ◌*◌}
use Rattle.fond_store.proofs.Firsts.{HasFirsts}
use Rattle.fond_kinds.specs.Tables.{type_names}
use Rattle.fond_kinds.proofs.table.put_names.Given as goal

-- the numbers have the first place of each name so far
abbrev pub invariant-loop-i : goal.invariant-loop-i
invariant-loop-i l = HasFirsts (λ name. name) (type_names l.types) l.numbers (2 * l.i + 1)
