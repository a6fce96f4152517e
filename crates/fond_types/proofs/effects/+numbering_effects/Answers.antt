use Rattle.std.proofs.Common.{rules, ◌≡◌, ◌≤◌, ◌+◌, ◌==◌, not, ◌∷◌, [], Bool, List, ℕ, length, map, take, sym, ap, ◌∙◌, subst, arith, length-append}
use Rattle.std.specs.List.{list_all}
use Rattle.std.proofs.lemmas.List.{take_all, length-map}
use Rattle.std.proofs.lemmas.List.Folds.{list_all-map}
use Rattle.fond_ast.specs.Read.{condition_variables, effect_variables, has_choices}
use Rattle.fond_ast.specs.Within.{is_condition_within, is_effect_fluent, is_effect_within}
use Rattle.fond_ast.specs.declared.form.LEffect.{LEffect, out-LEffect}
use Rattle.fond_ast.specs.declared.form.LEffect.TheOpen as open_effect
use Rattle.fond_ast.specs.declared.form.LEffect.TheVariants as made_effect
use Rattle.fond_ast.specs.declared.names.TypedName.{TypedName}
use Rattle.fond_ast.specs.declared.syntax.Effect.{Effect, out-Effect}
use Rattle.fond_ast.specs.declared.syntax.Effect.TheOpen as open_written
use Rattle.fond_ast.specs.declared.syntax.Effect.TheVariants as made_written
use Rattle.fond_ast.specs.declared.syntax.Effect.TheViews.{size-Effect, sized-And, sized-Forall, sized-OneOf, sized-When}
use Rattle.fond_text.specs.Lists.{each_passes}
use Rattle.fond_types.specs.Meanings.{meanings, ranges_around}
use Rattle.fond_names.specs.Names.{objects_declared}
use Rattle.fond_types.specs.Bodies.{AreSoundEffects, IsNumberedEffect, IsSoundEffect}
use Rattle.fond_types.specs.Numbered.{is_effect_in}
use Rattle.fond_types.specs.Resolves.{are_ranges, is_condition, is_effect}
use Rattle.fond_names.specs.Sites.{AList, AnAtom, Scope, condition_sites, effect_sites, variables_of}
use Rattle.fond_text.specs.declared.code.TheConstants.{LONGEST_TEXT}
use Rattle.fond_types.specs.Sound.{are_sound, is_mentioned, literals_pass}
use Rattle.fond_names.proofs.Members.{and_both, and_parts}
use Rattle.fond_types.proofs.BodyLemmas.{effect_read_by, fluent_by}
use Rattle.fond_types.proofs.FormLemmas.{few_inside, sound_after, sound_both, sound_effect_form, typed_inside}
use Rattle.fond_types.proofs.Passing.{passes_next, if_both, if_ok, if_made}
use Rattle.fond_types.proofs.WithinLemmas.{effect_within_by, quantifier_within, sound_parts, map-map, next_read, rest_passes, all_more, sum_here}
use Rattle.fond_types.proofs.effects.+numbering_effects.Goals as goal

pub numbered_effect-returns-in_ok-ranges-in-Forall-clause-numbered : goal.numbered_effect-returns-in_ok-ranges-in-Forall-clause-numbered
numbered_effect-returns-in_ok-ranges-in-Forall-clause-numbered t c =
    let all = c.args.context.now in
    let ranges = c.in_ok-ranges-in-Forall.ranges in
    let part = c.in_ok-ranges-in-Forall.part in
    let names = c.in-Forall.names in
    let written = c.in-Forall.part in
    let made = c.in_ok-ranges-in-Forall.ensures in
    record {
      resolved = effect_read_by (meanings all.files) c.args.around.now c.args.effect.now (open_written.Forall names written) _ (open_effect.Forall ranges part) (ap out-Effect c.in-Forall.is ∙ made_written.outs-Forall names written) (made_effect.outs-Forall ranges part)
          ∙ and_both (are_ranges (meanings all.files) names ranges) _ made.ranges
          (ap (λ (one : Effect). is_effect (meanings all.files) one (names ∷ c.args.around.now) part.value) (sym c.deref-in-Forall.ensures) ∙ made.numbered.resolved);
      within = effect_within_by (length (objects_declared all.files)) all.predicates _ (open_effect.Forall ranges part) (made_effect.outs-Forall ranges part) (ranges_around (meanings all.files).range c.args.around.now)
          ∙ quantifier_within all.files c.args.around.now names ranges (is_effect_within (length (objects_declared all.files)) all.predicates part.value) made.ranges made.numbered.within;
      fluent = fluent_by all.predicates _ (open_effect.Forall ranges part) (made_effect.outs-Forall ranges part) ∙ made.numbered.fluent;
    }

pub numbered_effect-returns-in-Add-clause-numbered : goal.numbered_effect-returns-in-Add-clause-numbered
numbered_effect-returns-in-Add-clause-numbered t c =
    let all = c.args.context.now in
    let around = c.args.around.now in
    let written = c.in-Add.atom in
    let form = sound_effect_form all.files around c.args.effect.now (open_written.Add written) (ap out-Effect c.in-Add.is ∙ made_written.outs-Add written) c.requires.sound in
    let made = c.numbered_atom.ensures in
    if_made _ _ _ c.numbered_atom.result c.map.result c.map.ensures.cases
    (λ atom number are is.
    let out : out-LEffect number ≡ open_effect.Add atom = ap (λ (one : LEffect). out-LEffect one) is ∙ made_effect.outs-Add atom in
    record {
      resolved = effect_read_by (meanings all.files) around c.args.effect.now (open_written.Add written) number (open_effect.Add atom) (ap out-Effect c.in-Add.is ∙ made_written.outs-Add written) out ∙ are.0.0;
      within = effect_within_by (length (objects_declared all.files)) all.predicates number (open_effect.Add atom) out (ranges_around (meanings all.files).range around) ∙ are.0.1;
      fluent = fluent_by all.predicates number (open_effect.Add atom) out ∙ are.1 ∙ form.literals;
    })
    (if_both _ _ _ (if_both _ _ _ made.resolved made.within) made.fluent)

pub numbered_effect-returns-in-Delete-clause-numbered : goal.numbered_effect-returns-in-Delete-clause-numbered
numbered_effect-returns-in-Delete-clause-numbered t c =
    let all = c.args.context.now in
    let around = c.args.around.now in
    let written = c.in-Delete.atom in
    let form = sound_effect_form all.files around c.args.effect.now (open_written.Delete written) (ap out-Effect c.in-Delete.is ∙ made_written.outs-Delete written) c.requires.sound in
    let made = c.numbered_atom-in-Delete.ensures in
    if_made _ _ _ c.numbered_atom-in-Delete.result c.map-in-Delete.result c.map-in-Delete.ensures.cases
    (λ atom number are is.
    let out : out-LEffect number ≡ open_effect.Delete atom = ap (λ (one : LEffect). out-LEffect one) is ∙ made_effect.outs-Delete atom in
    record {
      resolved = effect_read_by (meanings all.files) around c.args.effect.now (open_written.Delete written) number (open_effect.Delete atom) (ap out-Effect c.in-Delete.is ∙ made_written.outs-Delete written) out ∙ are.0.0;
      within = effect_within_by (length (objects_declared all.files)) all.predicates number (open_effect.Delete atom) out (ranges_around (meanings all.files).range around) ∙ are.0.1;
      fluent = fluent_by all.predicates number (open_effect.Delete atom) out ∙ are.1 ∙ form.literals;
    })
    (if_both _ _ _ (if_both _ _ _ made.resolved made.within) made.fluent)

pub numbered_effect-returns-in_ok-numbered_condition-in-When-clause-numbered : goal.numbered_effect-returns-in_ok-numbered_condition-in-When-clause-numbered
numbered_effect-returns-in_ok-numbered_condition-in-When-clause-numbered t c =
    let all = c.args.context.now in
    let around = c.args.around.now in
    let condition = c.in-When.condition in
    let written = c.in-When.part in
    let part = c.in_ok-part-in-When.part in
    let pre = c.in_ok-numbered_condition-in-When.field-0 in
    let made = c.in_ok-part-in-When.ensures.numbered in
    let pre_made = c.in_ok-numbered_condition-in-When.ensures.numbered in
    let out = made_effect.outs-When pre part in
    record {
      resolved = effect_read_by (meanings all.files) around c.args.effect.now (open_written.When condition written) _ (open_effect.When pre part) (ap out-Effect c.in-When.is ∙ made_written.outs-When condition written) out
          ∙ and_both (is_condition (meanings all.files) condition around pre) _ pre_made.resolved
          (ap (λ (one : Effect). is_effect (meanings all.files) one around part.value) (sym c.deref-in-When.ensures) ∙ made.resolved);
      within = effect_within_by (length (objects_declared all.files)) all.predicates _ (open_effect.When pre part) out (ranges_around (meanings all.files).range around)
          ∙ and_both (is_condition_within (length (objects_declared all.files)) all.predicates pre (ranges_around (meanings all.files).range around)) _ pre_made.within made.within;
      fluent = fluent_by all.predicates _ (open_effect.When pre part) out ∙ made.fluent;
    }

pub numbered_effect-returns-in-And-clause-numbered : goal.numbered_effect-returns-in-And-clause-numbered
numbered_effect-returns-in-And-clause-numbered t c =
    let all = c.args.context.now in
    let around = c.args.around.now in
    let written = c.in-And.parts in
    let within = is_effect_within (length (objects_declared all.files)) all.predicates in
    if_made _ _ _ c.numbered_effects.result c.map-in-And.result c.map-in-And.ensures.cases
    (λ parts number are is.
    let out : out-LEffect number ≡ open_effect.And parts = ap (λ (one : LEffect). out-LEffect one) is ∙ made_effect.outs-And parts in
    record {
      resolved = effect_read_by (meanings all.files) around c.args.effect.now (open_written.And written) number (open_effect.And parts) (ap out-Effect c.in-And.is ∙ made_written.outs-And written) out
          ∙ ap (λ (some : List Effect). each_passes (map (λ part. part around) (map (is_effect (meanings all.files)) some)) parts.items) (sym c.deref.ensures.value) ∙ are.resolved;
      within = effect_within_by (length (objects_declared all.files)) all.predicates number (open_effect.And parts) out (ranges_around (meanings all.files).range around) ∙ are.within;
      fluent = fluent_by all.predicates number (open_effect.And parts) out ∙ are.fluent;
    })
    c.numbered_effects.ensures.numbered

pub numbered_effect-returns-in-OneOf-clause-numbered : goal.numbered_effect-returns-in-OneOf-clause-numbered
numbered_effect-returns-in-OneOf-clause-numbered t c =
    let all = c.args.context.now in
    let around = c.args.around.now in
    let written = c.in-OneOf.parts in
    let within = is_effect_within (length (objects_declared all.files)) all.predicates in
    let form = sound_effect_form all.files around c.args.effect.now (open_written.OneOf written) (ap out-Effect c.in-OneOf.is ∙ made_written.outs-OneOf written) c.requires.sound in
    let some = (and_parts (not (length (map has_choices written.items) == 0)) (list_all (λ (part : Bool). part) (map has_choices written.items)) form.choices).0 in
    if_made _ _ _ c.numbered_effects-in-OneOf.result c.map-in-OneOf.result c.map-in-OneOf.ensures.cases
    (λ parts number are is.
    let out : out-LEffect number ≡ open_effect.OneOf parts = ap (λ (one : LEffect). out-LEffect one) is ∙ made_effect.outs-OneOf parts in
    record {
      resolved = effect_read_by (meanings all.files) around c.args.effect.now (open_written.OneOf written) number (open_effect.OneOf parts) (ap out-Effect c.in-OneOf.is ∙ made_written.outs-OneOf written) out
          ∙ ap (λ (some : List Effect). each_passes (map (λ part. part around) (map (is_effect (meanings all.files)) some)) parts.items) (sym c.deref-in-OneOf.ensures.value) ∙ are.resolved;
      within = effect_within_by (length (objects_declared all.files)) all.predicates number (open_effect.OneOf parts) out (ranges_around (meanings all.files).range around) ∙ and_both (not (length (map within parts.items) == 0)) _
          (ap (λ n. not (n == 0)) (length-map parts.items within ∙ are.counted ∙ ap length c.deref-in-OneOf.ensures.value ∙ sym (length-map written.items has_choices)) ∙ some) are.within;
      fluent = fluent_by all.predicates number (open_effect.OneOf parts) out ∙ are.fluent;
    })
    c.numbered_effects-in-OneOf.ensures.numbered

pub put_effects-loop-effect-init : goal.put_effects-loop-effect-init
put_effects-loop-effect-init t c =
    let files = c.args.context.now.files in
    let around = c.args.around.now in
    record {
      resolved = ap (each_passes []) c.requires.empty;
      within = ap (list_all (is_effect_in c.args.context.now around)) c.requires.empty;
      sound = sound_parts files effect_sites around c.args.effects.now c.requires.sound.sound;
      choices = sym (list_all-map (λ (part : Bool). part) has_choices c.args.effects.now) ∙ c.requires.sound.choices;
      literals = sym (list_all-map (λ (part : Bool). part) (literals_pass (is_mentioned files.domain)) c.args.effects.now) ∙ c.requires.sound.literals;
      fluent = ap (list_all (is_effect_fluent c.args.context.now.predicates)) c.requires.empty;
      counted = ap length c.requires.empty;
      few = c.requires.sound.few;
      kept = c.requires.kept;
    }

pub put_effects-loop-effect-preserved : goal.put_effects-loop-effect-preserved
put_effects-loop-effect-preserved t c =
    let files = c.args.context.now.files in
    let around = c.args.around.now in
    let effects = c.args.effects.now in
    let i = c.loop-effect.effect-index in
    let effect = c.effect-item.result in
    let got = next_read effects i effect c.loop-effect-test.true c.effect-item.is in
    let number = c.in_ok-numbered_effect.field-0 in
    let made = c.in_ok-numbered_effect.ensures.numbered in
    let before = c.loop-effect.invariant in
    let left = sum_here effect_variables effects i effect got in
    let few = before.few in
    record {
      resolved = ap (each_passes (map (λ (one : Effect). is_effect (meanings files) one around) (take (i + 1) effects))) c.in_ok-push.ensures.items
          ∙ passes_next (λ (one : Effect). is_effect (meanings files) one around) effects i effect c.loop-effect.all.items number got before.resolved made.resolved;
      within = ap (list_all (is_effect_in c.args.context.now around)) c.in_ok-push.ensures.items
          ∙ all_more (is_effect_in c.args.context.now around) c.loop-effect.all.items number before.within made.within;
      sound = rest_passes (λ (one : Effect). are_sound files (effect_sites one around)) effects i effect got before.sound;
      choices = rest_passes has_choices effects i effect got before.choices;
      literals = rest_passes (literals_pass (is_mentioned files.domain)) effects i effect got before.literals;
      fluent = ap (list_all (is_effect_fluent c.args.context.now.predicates)) c.in_ok-push.ensures.items ∙ all_more (is_effect_fluent c.args.context.now.predicates) c.loop-effect.all.items number before.fluent made.fluent;
      counted = ap length c.in_ok-push.ensures.items ∙ length-append c.loop-effect.all.items (number ∷ []) ∙ ap (λ n. n + 1) before.counted;
      few = omega (arith, left, few);
      kept = c.in_ok-numbered_effect.ensures.kept;
    }

pub put_effects-returns-clause-numbered : goal.put_effects-returns-clause-numbered
put_effects-returns-clause-numbered t c =
    let files = c.args.context.now.files in
    let around = c.args.around.now in
    let effects = c.args.effects.now in
    record {
      resolved = ap (λ tests. each_passes tests c.loop-effect.all.items) (map-map (is_effect (meanings files)) (λ part. part around) effects)
          ∙ ap (λ (some : List Effect). each_passes (map (λ (one : Effect). is_effect (meanings files) one around) some) c.loop-effect.all.items) (sym (take_all c.loop-effect.effect-index effects (omega arith)))
          ∙ c.loop-effect.invariant.resolved;
      within = list_all-map (λ (number : List (List ℕ) → Bool). number (ranges_around (meanings files).range around)) (is_effect_within (length (objects_declared files)) c.args.context.now.predicates) c.loop-effect.all.items
          ∙ c.loop-effect.invariant.within;
      fluent = list_all-map (λ (part : Bool). part) (is_effect_fluent c.args.context.now.predicates) c.loop-effect.all.items ∙ c.loop-effect.invariant.fluent;
      counted = search rules;
    }

pub numbered_inside-numbered_boxed-requires : goal.numbered_inside-numbered_boxed-requires
numbered_inside-numbered_boxed-requires t c =
    let lists : c.inside-within.result ≡ c.args.names.now ∷ c.args.around.now = c.inside-within.ensures ∙ ap (λ (list : List TypedName). list ∷ c.args.around.now) c.in_ok-variables.ensures in
    (search rules, (subst (λ (around : Scope). IsSoundEffect c.args.context.now.files around c.args.part.now) (sym lists) c.requires.sound, c.requires.kept))

pub numbered_inside-returns-clause-numbered : goal.numbered_inside-returns-clause-numbered
numbered_inside-returns-clause-numbered t c =
    let lists : c.inside-within.result ≡ c.args.names.now ∷ c.args.around.now = c.inside-within.ensures ∙ ap (λ (list : List TypedName). list ∷ c.args.around.now) c.in_ok-variables.ensures in
    if_ok _ _ c.numbered_boxed.result (λ part is. subst (λ (around : Scope). IsNumberedEffect c.args.context.now around c.args.part.now part.value) lists is) c.numbered_boxed.ensures.numbered

pub numbered_effect-numbered_effects-requires : goal.numbered_effect-numbered_effects-requires
numbered_effect-numbered_effects-requires t c =
    let files = c.args.context.now.files in
    let around = c.args.around.now in
    let parts = c.in-And.parts in
    let form = sound_effect_form files around c.args.effect.now (open_written.And parts) (ap out-Effect c.in-And.is ∙ made_written.outs-And parts) c.requires.sound in
    let sound : AreSoundEffects files around parts.items = record { sound = form.sound; choices = form.choices; literals = form.literals; typed = c.requires.sound.typed; few = form.few } in
    ((let deep = ap (λ (one : Effect). size-Effect one) c.in-And.is ∙ sized-And parts in grind (arith, c.decreases, deep, c.deref.ensures.value)), (subst (λ (effects : List Effect). AreSoundEffects files around effects) (sym c.deref.ensures.value) sound, c.requires.kept))

pub numbered_effect-numbered_effects-requires-in-OneOf : goal.numbered_effect-numbered_effects-requires-in-OneOf
numbered_effect-numbered_effects-requires-in-OneOf t c =
    let files = c.args.context.now.files in
    let around = c.args.around.now in
    let parts = c.in-OneOf.parts in
    let form = sound_effect_form files around c.args.effect.now (open_written.OneOf parts) (ap out-Effect c.in-OneOf.is ∙ made_written.outs-OneOf parts) c.requires.sound in
    let sound : AreSoundEffects files around parts.items = record { sound = form.sound; choices = (and_parts (not (length (map has_choices parts.items) == 0)) (list_all (λ (part : Bool). part) (map has_choices parts.items)) form.choices).1; literals = form.literals; typed = c.requires.sound.typed; few = form.few } in
    ((let deep = ap (λ (one : Effect). size-Effect one) c.in-OneOf.is ∙ sized-OneOf parts in grind (arith, c.decreases, deep, c.deref-in-OneOf.ensures.value)), (subst (λ (effects : List Effect). AreSoundEffects files around effects) (sym c.deref-in-OneOf.ensures.value) sound, c.requires.kept))

pub numbered_effect-numbered_atom-requires-clause-sound : goal.numbered_effect-numbered_atom-requires-clause-sound
numbered_effect-numbered_atom-requires-clause-sound t c =
    let files = c.args.context.now.files in
    let around = c.args.around.now in
    let atom = c.in-Add.atom in
    let form = sound_effect_form files around c.args.effect.now (open_written.Add atom) (ap out-Effect c.in-Add.is ∙ made_written.outs-Add atom) c.requires.sound in
    (sound_after files (AnAtom around atom) [] form.sound).0

pub numbered_effect-numbered_atom-requires-in-Delete-clause-sound : goal.numbered_effect-numbered_atom-requires-in-Delete-clause-sound
numbered_effect-numbered_atom-requires-in-Delete-clause-sound t c =
    let files = c.args.context.now.files in
    let around = c.args.around.now in
    let atom = c.in-Delete.atom in
    let form = sound_effect_form files around c.args.effect.now (open_written.Delete atom) (ap out-Effect c.in-Delete.is ∙ made_written.outs-Delete atom) c.requires.sound in
    (sound_after files (AnAtom around atom) [] form.sound).0

pub numbered_effect-numbered_part-requires : goal.numbered_effect-numbered_part-requires
numbered_effect-numbered_part-requires t c =
    let files = c.args.context.now.files in
    let around = c.args.around.now in
    let names = c.in-Forall.names in
    let part = c.in-Forall.part in
    let form = sound_effect_form files around c.args.effect.now (open_written.Forall names part) (ap out-Effect c.in-Forall.is ∙ made_written.outs-Forall names part) c.requires.sound in
    let both = sound_after files (AList names) (effect_sites part.value (names ∷ around)) form.sound in
    let sound : IsSoundEffect files (names ∷ around) part.value = record {
      sound = both.1;
      choices = form.choices;
      literals = form.literals;
      typed = typed_inside files around names both.0 c.requires.sound.typed;
      few = few_inside files around names (effect_variables part.value) form.few;
    } in
    ((let deep = ap (λ (one : Effect). size-Effect one) c.in-Forall.is ∙ sized-Forall names part in grind (arith, c.decreases, deep, c.deref-in-Forall.ensures)), (subst (λ (effect : Effect). IsSoundEffect files (names ∷ around) effect) (sym c.deref-in-Forall.ensures) sound, c.requires.kept))

pub numbered_effect-numbered_boxed-requires : goal.numbered_effect-numbered_boxed-requires
numbered_effect-numbered_boxed-requires t c =
    let files = c.args.context.now.files in
    let around = c.args.around.now in
    let condition = c.in-When.condition in
    let part = c.in-When.part in
    let form = sound_effect_form files around c.args.effect.now (open_written.When condition part) (ap out-Effect c.in-When.is ∙ made_written.outs-When condition part) c.requires.sound in
    let both = sound_both files (condition_sites condition around) (effect_sites part.value around) form.sound in
    let few : length (variables_of around) + (condition_variables condition + effect_variables part.value) ≤ LONGEST_TEXT = form.few in
    let sound : IsSoundEffect files around part.value = record { sound = both.1; choices = form.choices; literals = form.literals; typed = c.requires.sound.typed; few = omega (arith, few) } in
    ((let deep = ap (λ (one : Effect). size-Effect one) c.in-When.is ∙ sized-When condition part in grind (arith, c.decreases, deep, c.deref-in-When.ensures)), (subst (λ (effect : Effect). IsSoundEffect files around effect) (sym c.deref-in-When.ensures) sound, c.requires.kept))

pub numbered_effect-numbered_condition-requires-clause-sound : goal.numbered_effect-numbered_condition-requires-clause-sound
numbered_effect-numbered_condition-requires-clause-sound t c =
    let files = c.args.context.now.files in
    let around = c.args.around.now in
    let condition = c.in-When.condition in
    let part = c.in-When.part in
    let form = sound_effect_form files around c.args.effect.now (open_written.When condition part) (ap out-Effect c.in-When.is ∙ made_written.outs-When condition part) c.requires.sound in
    let few : length (variables_of around) + (condition_variables condition + effect_variables part.value) ≤ LONGEST_TEXT = form.few in
    record { sound = (sound_both files (condition_sites condition around) (effect_sites part.value around) form.sound).0; typed = c.requires.sound.typed; few = omega (arith, few) }
