use Rattle.std.proofs.Common.{◌≡◌, true, map, take}
use Rattle.fond_text.specs.Lists.{each_passes}
use Rattle.fond_types.specs.Context.{is_predicate}
use Rattle.fond_types.specs.Kept.{are_kept}
use Rattle.fond_names.specs.Names.{predicates_declared}
use Rattle.fond_types.proofs.numbered_predicates.numbered_predicates.Given as goal

-- the predicates so far are the declared ones so far
abbrev pub invariant-loop-i : goal.invariant-loop-i
invariant-loop-i l =
    let files = l.table in
    record {
      resolved : each_passes (map (is_predicate files) (take l.i (predicates_declared files.domain))) l.predicates ≡ true;
      kept : are_kept files l.kept.entries.items ≡ true;
    }
