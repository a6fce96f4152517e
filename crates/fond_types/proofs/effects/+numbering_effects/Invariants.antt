use Rattle.std.proofs.Common.{◌≡◌, ◌≤◌, ◌+◌, true, length, map, take, drop, sum}
use Rattle.std.specs.List.{list_all}
use Rattle.fond_ast.specs.Read.{effect_variables, has_choices}
use Rattle.fond_ast.specs.Within.{is_effect_fluent}
use Rattle.fond_text.specs.declared.code.TheConstants.{LONGEST_TEXT}
use Rattle.fond_text.specs.Lists.{each_passes}
use Rattle.fond_types.specs.Kept.{are_kept}
use Rattle.fond_types.specs.Meanings.{meanings}
use Rattle.fond_types.specs.Numbered.{is_effect_in}
use Rattle.fond_types.specs.Resolves.{is_effect}
use Rattle.fond_names.specs.Sites.{effect_sites, variables_of}
use Rattle.fond_types.specs.Sound.{are_sound, is_mentioned, literals_pass}
use Rattle.fond_types.proofs.effects.+numbering_effects.Given as goal

-- the effects so far are numbered, and those that are left are sound and declare few variables
abbrev pub invariant-put_effects-loop-effect : goal.invariant-put_effects-loop-effect
invariant-put_effects-loop-effect l =
    let files = l.context.files in
    let around = l.around in
    record {
      resolved : each_passes (map (λ effect. is_effect (meanings files) effect around) (take l.effect-index l.effects)) l.all.items ≡ true;
      within : list_all (is_effect_in l.context around) l.all.items ≡ true;
      sound : list_all (λ effect. are_sound files (effect_sites effect around)) (drop l.effect-index l.effects) ≡ true;
      choices : list_all has_choices (drop l.effect-index l.effects) ≡ true;
      literals : list_all (literals_pass (is_mentioned files.domain)) (drop l.effect-index l.effects) ≡ true;
      fluent : list_all (is_effect_fluent l.context.predicates) l.all.items ≡ true;
      counted : length l.all.items ≡ l.effect-index;
      few : length (variables_of around) + sum (map effect_variables (drop l.effect-index l.effects)) ≤ LONGEST_TEXT;
      kept : are_kept files l.kept.entries.items ≡ true;
    }
