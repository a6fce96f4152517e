use Rattle.std.proofs.Common.{◌≡◌, replicate, []}
use Rattle.fond_join.proofs.facts.no_entries.Given as goal

abbrev pub invariant-loop : goal.invariant-loop
invariant-loop l = l.tables.items ≡ replicate l.counter []
