use Rattle.std.proofs.Common.{◌≡◌, true, map, take}
use Rattle.std.specs.List.{list_all}
use Rattle.fond_ast.specs.Within.{is_initial_within}
use Rattle.fond_text.specs.Lists.{each_passes}
use Rattle.fond_types.specs.Meanings.{meanings}
use Rattle.fond_types.specs.Resolves.{is_ground_atom, positive}
use Rattle.fond_types.proofs.initial.numbered_init.Given as goal

-- the initial atoms so far are numbered
abbrev pub invariant-loop-i : goal.invariant-loop-i
invariant-loop-i l =
    let files = l.context.files in
    record {
      resolved : each_passes (map (is_ground_atom (meanings files)) (positive (take l.i files.problem.init))) l.all ≡ true;
      within : list_all (is_initial_within l.context.predicates) l.all ≡ true;
    }
