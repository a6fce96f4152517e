use Rattle.std.proofs.Common.{◌≡◌, ◌≤◌, ◌+◌, true, length, map, take, drop, sum}
use Rattle.std.specs.List.{list_all}
use Rattle.fond_ast.specs.Read.{condition_variables}
use Rattle.fond_text.specs.declared.code.TheConstants.{LONGEST_TEXT}
use Rattle.fond_text.specs.Lists.{each_passes}
use Rattle.fond_types.specs.Kept.{are_kept}
use Rattle.fond_types.specs.Meanings.{meanings}
use Rattle.fond_types.specs.Numbered.{is_condition_in}
use Rattle.fond_types.specs.Resolves.{is_condition}
use Rattle.fond_names.specs.Sites.{condition_sites, variables_of}
use Rattle.fond_types.specs.Sound.{are_sound}
use Rattle.fond_types.proofs.conditions.+numbering_conditions.Given as goal

-- the conditions so far are numbered, and those that are left are sound and declare few variables
abbrev pub invariant-put_conditions-loop-condition : goal.invariant-put_conditions-loop-condition
invariant-put_conditions-loop-condition l =
    let files = l.context.files in
    let around = l.around in
    record {
      resolved : each_passes (map (λ condition. is_condition (meanings files) condition around) (take l.condition-index l.conditions)) l.all.items ≡ true;
      within : list_all (is_condition_in l.context around) l.all.items ≡ true;
      sound : list_all (λ condition. are_sound files (condition_sites condition around)) (drop l.condition-index l.conditions) ≡ true;
      few : length (variables_of around) + sum (map condition_variables (drop l.condition-index l.conditions)) ≤ LONGEST_TEXT;
      kept : are_kept files l.kept.entries.items ≡ true;
    }
