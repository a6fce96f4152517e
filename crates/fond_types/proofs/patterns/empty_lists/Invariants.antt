use Rattle.std.proofs.Common.{◌≡◌, true, [], map, take}
use Rattle.fond_text.specs.Lists.{each_passes}
use Rattle.fond_types.specs.Meanings.{meanings}
use Rattle.fond_types.specs.Patterns.{are_patterns}
use Rattle.fond_types.proofs.patterns.empty_lists.Given as goal

-- the schemas so far have a list
abbrev pub invariant-loop-i : goal.invariant-loop-i
invariant-loop-i l = each_passes (map (λ schema. are_patterns (meanings l.table) [] schema.name) (take l._i l.table.domain.schemas)) l.filed.items ≡ true
