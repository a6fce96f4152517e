use Rattle.std.proofs.Common.{◌≡◌, true, map, take}
use Rattle.fond_text.specs.Lists.{each_passes}
use Rattle.fond_types.specs.Meanings.{meanings}
use Rattle.fond_types.specs.Resolves.{is_pattern_term}
use Rattle.fond_types.proofs.patterns.placed_terms.Given as goal

-- the terms so far are numbered
abbrev pub invariant-loop-i : goal.invariant-loop-i
invariant-loop-i l = each_passes (map (is_pattern_term (meanings l.table) l.terms) (take l.i l.terms)) l.numbers ≡ true
