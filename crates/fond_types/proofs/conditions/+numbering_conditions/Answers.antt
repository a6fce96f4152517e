use Rattle.std.proofs.Common.{rules, ◌≡◌, ◌≤◌, ◌+◌, ◌∷◌, [], Bool, List, ℕ, length, map, take, sym, ap, ◌∙◌, subst, arith}
use Rattle.std.specs.List.{list_all}
use Rattle.std.proofs.lemmas.List.{take_all}
use Rattle.std.proofs.lemmas.List.Folds.{list_all-map}
use Rattle.fond_ast.specs.Read.{condition_variables}
use Rattle.fond_ast.specs.Within.{is_condition_within}
use Rattle.fond_ast.specs.declared.form.LCond.{LCond, out-LCond}
use Rattle.fond_ast.specs.declared.form.LCond.TheOpen as open_condition
use Rattle.fond_ast.specs.declared.form.LCond.TheVariants as made_condition
use Rattle.fond_ast.specs.declared.names.TypedName.{TypedName}
use Rattle.fond_ast.specs.declared.syntax.Cond.{Cond, out-Cond}
use Rattle.fond_ast.specs.declared.syntax.Cond.TheOpen as open_written
use Rattle.fond_ast.specs.declared.syntax.Cond.TheVariants as made_written
use Rattle.fond_ast.specs.declared.syntax.Cond.TheViews.{size-Cond, sized-And, sized-Or, sized-Not, sized-Imply, sized-Forall, sized-Exists}
use Rattle.fond_text.specs.Lists.{each_passes}
use Rattle.fond_types.specs.Meanings.{meanings, ranges_around}
use Rattle.fond_names.specs.Names.{objects_declared}
use Rattle.fond_types.specs.Bodies.{AreSoundConditions, IsNumberedCondition, IsSoundCondition}
use Rattle.fond_types.specs.Numbered.{is_condition_in, is_term_in}
use Rattle.fond_types.specs.Resolves.{are_ranges, is_condition, is_term}
use Rattle.fond_names.specs.Sites.{AList, AnAtom, AnEquality, Scope, condition_sites, variables_of}
use Rattle.fond_text.specs.declared.code.TheConstants.{LONGEST_TEXT}
use Rattle.fond_types.specs.Sound.{are_sound, is_known}
use Rattle.fond_names.proofs.Members.{and_both, and_parts}
use Rattle.fond_types.proofs.BodyLemmas.{condition_read_by}
use Rattle.fond_types.proofs.FormLemmas.{few_inside, sound_after, sound_both, sound_form, typed_inside}
use Rattle.fond_types.proofs.Passing.{passes_next, if_both, if_ok, if_made}
use Rattle.fond_types.proofs.WithinLemmas.{condition_within_by, quantifier_within, sound_parts, map-map, next_read, rest_passes, all_more, sum_here}
use Rattle.fond_types.proofs.conditions.+numbering_conditions.Goals as goal

pub numbered_condition-returns-in_ok-ranges-in-Forall-clause-numbered : goal.numbered_condition-returns-in_ok-ranges-in-Forall-clause-numbered
numbered_condition-returns-in_ok-ranges-in-Forall-clause-numbered t c =
    let all = c.args.context.now in
    let ranges = c.in_ok-ranges-in-Forall.ranges in
    let part = c.in_ok-ranges-in-Forall.part in
    let names = c.in-Forall.names in
    let written = c.in-Forall.part in
    let made = c.in_ok-ranges-in-Forall.ensures in
    record {
      resolved = condition_read_by (meanings all.files) c.args.around.now c.args.condition.now (open_written.Forall names written) _ (open_condition.Forall ranges part) (ap out-Cond c.in-Forall.is ∙ made_written.outs-Forall names written) (made_condition.outs-Forall ranges part)
          ∙ and_both (are_ranges (meanings all.files) names ranges) _ made.ranges
          (ap (λ (one : Cond). is_condition (meanings all.files) one (names ∷ c.args.around.now) part.value) (sym c.deref-in-Forall.ensures) ∙ made.numbered.resolved);
      within = condition_within_by (length (objects_declared all.files)) all.predicates _ (open_condition.Forall ranges part) (made_condition.outs-Forall ranges part) (ranges_around (meanings all.files).range c.args.around.now)
          ∙ quantifier_within all.files c.args.around.now names ranges (is_condition_within (length (objects_declared all.files)) all.predicates part.value) made.ranges made.numbered.within;
    }

pub numbered_condition-returns-in_ok-ranges-in-Exists-clause-numbered : goal.numbered_condition-returns-in_ok-ranges-in-Exists-clause-numbered
numbered_condition-returns-in_ok-ranges-in-Exists-clause-numbered t c =
    let all = c.args.context.now in
    let ranges = c.in_ok-ranges-in-Exists.ranges in
    let part = c.in_ok-ranges-in-Exists.part in
    let names = c.in-Exists.names in
    let written = c.in-Exists.part in
    let made = c.in_ok-ranges-in-Exists.ensures in
    record {
      resolved = condition_read_by (meanings all.files) c.args.around.now c.args.condition.now (open_written.Exists names written) _ (open_condition.Exists ranges part) (ap out-Cond c.in-Exists.is ∙ made_written.outs-Exists names written) (made_condition.outs-Exists ranges part)
          ∙ and_both (are_ranges (meanings all.files) names ranges) _ made.ranges
          (ap (λ (one : Cond). is_condition (meanings all.files) one (names ∷ c.args.around.now) part.value) (sym c.deref-in-Exists.ensures) ∙ made.numbered.resolved);
      within = condition_within_by (length (objects_declared all.files)) all.predicates _ (open_condition.Exists ranges part) (made_condition.outs-Exists ranges part) (ranges_around (meanings all.files).range c.args.around.now)
          ∙ quantifier_within all.files c.args.around.now names ranges (is_condition_within (length (objects_declared all.files)) all.predicates part.value) made.ranges made.numbered.within;
    }

pub numbered_condition-returns-in-Holds-clause-numbered : goal.numbered_condition-returns-in-Holds-clause-numbered
numbered_condition-returns-in-Holds-clause-numbered t c =
    let all = c.args.context.now in
    let around = c.args.around.now in
    let written = c.in-Holds.atom in
    if_made _ _ _ c.numbered_atom.result c.map.result c.map.ensures.cases
    (λ atom number are is.
    let form : out-LCond number ≡ open_condition.Holds atom = ap (λ (one : LCond). out-LCond one) is ∙ made_condition.outs-Holds atom in
    record {
      resolved = condition_read_by (meanings all.files) around c.args.condition.now (open_written.Holds written) number (open_condition.Holds atom) (ap out-Cond c.in-Holds.is ∙ made_written.outs-Holds written) form ∙ are.0;
      within = condition_within_by (length (objects_declared all.files)) all.predicates number (open_condition.Holds atom) form (ranges_around (meanings all.files).range around) ∙ are.1;
    })
    (if_both _ _ _ c.numbered_atom.ensures.resolved c.numbered_atom.ensures.within)

pub numbered_condition-returns-in-Equal-clause-numbered : goal.numbered_condition-returns-in-Equal-clause-numbered
numbered_condition-returns-in-Equal-clause-numbered t c =
    let all = c.args.context.now in
    let around = c.args.around.now in
    let term = c.in-Equal.term in
    let other = c.in-Equal.other in
    let number = c.numbered_term.result in
    let next = c.numbered_term-in-Equal.result in
    let form = made_condition.outs-Equal number next in
    record {
      resolved = condition_read_by (meanings all.files) around c.args.condition.now (open_written.Equal term other) _ (open_condition.Equal number next) (ap out-Cond c.in-Equal.is ∙ made_written.outs-Equal term other) form
          ∙ and_both (is_term (meanings all.files) around term number) _ c.numbered_term.ensures.resolved c.numbered_term-in-Equal.ensures.resolved;
      within = condition_within_by (length (objects_declared all.files)) all.predicates _ (open_condition.Equal number next) form (ranges_around (meanings all.files).range around)
          ∙ and_both (is_term_in all.files around number) _ c.numbered_term.ensures.within c.numbered_term-in-Equal.ensures.within;
    }

pub numbered_condition-returns-in-Not-clause-numbered : goal.numbered_condition-returns-in-Not-clause-numbered
numbered_condition-returns-in-Not-clause-numbered t c =
    let all = c.args.context.now in
    let around = c.args.around.now in
    let written = c.in-Not.part in
    if_made _ _ _ c.numbered_boxed.result c.map-in-Not.result c.map-in-Not.ensures.cases
    (λ part number are is.
    let form : out-LCond number ≡ open_condition.Not part = ap (λ (one : LCond). out-LCond one) is ∙ made_condition.outs-Not part in
    record {
      resolved = condition_read_by (meanings all.files) around c.args.condition.now (open_written.Not written) number (open_condition.Not part) (ap out-Cond c.in-Not.is ∙ made_written.outs-Not written) form
          ∙ ap (λ (one : Cond). is_condition (meanings all.files) one around part.value) (sym c.deref-in-Not.ensures) ∙ are.resolved;
      within = condition_within_by (length (objects_declared all.files)) all.predicates number (open_condition.Not part) form (ranges_around (meanings all.files).range around) ∙ are.within;
    })
    c.numbered_boxed.ensures.numbered

pub numbered_condition-returns-in_ok-other-in-Imply-clause-numbered : goal.numbered_condition-returns-in_ok-other-in-Imply-clause-numbered
numbered_condition-returns-in_ok-other-in-Imply-clause-numbered t c =
    let all = c.args.context.now in
    let around = c.args.around.now in
    let written = c.in-Imply.part in
    let written_other = c.in-Imply.other in
    let part = c.in_ok-part-in-Imply.part in
    let other = c.in_ok-other-in-Imply.other in
    let made = c.in_ok-part-in-Imply.ensures.numbered in
    let made_other = c.in_ok-other-in-Imply.ensures.numbered in
    let form = made_condition.outs-Imply part other in
    record {
      resolved = condition_read_by (meanings all.files) around c.args.condition.now (open_written.Imply written written_other) _ (open_condition.Imply part other) (ap out-Cond c.in-Imply.is ∙ made_written.outs-Imply written written_other) form
          ∙ and_both (is_condition (meanings all.files) written.value around part.value) _
          (ap (λ (one : Cond). is_condition (meanings all.files) one around part.value) (sym c.deref-in-Imply.ensures) ∙ made.resolved)
          (ap (λ (one : Cond). is_condition (meanings all.files) one around other.value) (sym c.deref-in-Imply-2.ensures) ∙ made_other.resolved);
      within = condition_within_by (length (objects_declared all.files)) all.predicates _ (open_condition.Imply part other) form (ranges_around (meanings all.files).range around)
          ∙ and_both (is_condition_within (length (objects_declared all.files)) all.predicates part.value (ranges_around (meanings all.files).range around)) _ made.within made_other.within;
    }

pub numbered_condition-returns-in-And-clause-numbered : goal.numbered_condition-returns-in-And-clause-numbered
numbered_condition-returns-in-And-clause-numbered t c =
    let all = c.args.context.now in
    let around = c.args.around.now in
    let written = c.in-And.parts in
    if_made _ _ _ c.numbered_conditions.result c.map-in-And.result c.map-in-And.ensures.cases
    (λ parts number are is.
    let form : out-LCond number ≡ open_condition.And parts = ap (λ (one : LCond). out-LCond one) is ∙ made_condition.outs-And parts in
    record {
      resolved = condition_read_by (meanings all.files) around c.args.condition.now (open_written.And written) number (open_condition.And parts) (ap out-Cond c.in-And.is ∙ made_written.outs-And written) form
          ∙ ap (λ (some : List Cond). each_passes (map (λ part. part around) (map (is_condition (meanings all.files)) some)) parts.items) (sym c.deref.ensures.value) ∙ are.resolved;
      within = condition_within_by (length (objects_declared all.files)) all.predicates number (open_condition.And parts) form (ranges_around (meanings all.files).range around) ∙ are.within;
    })
    c.numbered_conditions.ensures.numbered

pub numbered_condition-returns-in-Or-clause-numbered : goal.numbered_condition-returns-in-Or-clause-numbered
numbered_condition-returns-in-Or-clause-numbered t c =
    let all = c.args.context.now in
    let around = c.args.around.now in
    let written = c.in-Or.parts in
    if_made _ _ _ c.numbered_conditions-in-Or.result c.map-in-Or.result c.map-in-Or.ensures.cases
    (λ parts number are is.
    let form : out-LCond number ≡ open_condition.Or parts = ap (λ (one : LCond). out-LCond one) is ∙ made_condition.outs-Or parts in
    record {
      resolved = condition_read_by (meanings all.files) around c.args.condition.now (open_written.Or written) number (open_condition.Or parts) (ap out-Cond c.in-Or.is ∙ made_written.outs-Or written) form
          ∙ ap (λ (some : List Cond). each_passes (map (λ part. part around) (map (is_condition (meanings all.files)) some)) parts.items) (sym c.deref-in-Or.ensures.value) ∙ are.resolved;
      within = condition_within_by (length (objects_declared all.files)) all.predicates number (open_condition.Or parts) form (ranges_around (meanings all.files).range around) ∙ are.within;
    })
    c.numbered_conditions-in-Or.ensures.numbered

pub put_conditions-loop-condition-init : goal.put_conditions-loop-condition-init
put_conditions-loop-condition-init t c =
    let files = c.args.context.now.files in
    let around = c.args.around.now in
    record {
      resolved = ap (each_passes []) c.requires.empty;
      within = ap (list_all (is_condition_in c.args.context.now around)) c.requires.empty;
      sound = sound_parts files condition_sites around c.args.conditions.now c.requires.sound.sound;
      few = c.requires.sound.few;
      kept = c.requires.kept;
    }

pub put_conditions-loop-condition-preserved : goal.put_conditions-loop-condition-preserved
put_conditions-loop-condition-preserved t c =
    let files = c.args.context.now.files in
    let around = c.args.around.now in
    let conditions = c.args.conditions.now in
    let i = c.loop-condition.condition-index in
    let condition = c.condition-item.result in
    let got = next_read conditions i condition c.loop-condition-test.true c.condition-item.is in
    let number = c.in_ok-numbered_condition.field-0 in
    let made = c.in_ok-numbered_condition.ensures.numbered in
    let before = c.loop-condition.invariant in
    let left = sum_here condition_variables conditions i condition got in
    let few = before.few in
    record {
      resolved = ap (each_passes (map (λ (one : Cond). is_condition (meanings files) one around) (take (i + 1) conditions))) c.in_ok-push.ensures.items
          ∙ passes_next (λ (one : Cond). is_condition (meanings files) one around) conditions i condition c.loop-condition.all.items number got before.resolved made.resolved;
      within = ap (list_all (is_condition_in c.args.context.now around)) c.in_ok-push.ensures.items
          ∙ all_more (is_condition_in c.args.context.now around) c.loop-condition.all.items number before.within made.within;
      sound = rest_passes (λ (one : Cond). are_sound files (condition_sites one around)) conditions i condition got before.sound;
      few = omega (arith, left, few);
      kept = c.in_ok-numbered_condition.ensures.kept;
    }

pub put_conditions-returns-clause-numbered : goal.put_conditions-returns-clause-numbered
put_conditions-returns-clause-numbered t c =
    let files = c.args.context.now.files in
    let around = c.args.around.now in
    let conditions = c.args.conditions.now in
    record {
      resolved = ap (λ tests. each_passes tests c.loop-condition.all.items) (map-map (is_condition (meanings files)) (λ part. part around) conditions)
          ∙ ap (λ (some : List Cond). each_passes (map (λ (one : Cond). is_condition (meanings files) one around) some) c.loop-condition.all.items) (sym (take_all c.loop-condition.condition-index conditions (omega arith)))
          ∙ c.loop-condition.invariant.resolved;
      within = list_all-map (λ (number : List (List ℕ) → Bool). number (ranges_around (meanings files).range around)) (is_condition_within (length (objects_declared files)) c.args.context.now.predicates) c.loop-condition.all.items
          ∙ c.loop-condition.invariant.within;
    }

pub numbered_inside-numbered_boxed-requires : goal.numbered_inside-numbered_boxed-requires
numbered_inside-numbered_boxed-requires t c =
    let lists : c.inside-within.result ≡ c.args.names.now ∷ c.args.around.now = c.inside-within.ensures ∙ ap (λ (list : List TypedName). list ∷ c.args.around.now) c.in_ok-variables.ensures in
    (search rules, (subst (λ (around : Scope). IsSoundCondition c.args.context.now.files around c.args.part.now) (sym lists) c.requires.sound, c.requires.kept))

pub numbered_inside-returns-clause-numbered : goal.numbered_inside-returns-clause-numbered
numbered_inside-returns-clause-numbered t c =
    let lists : c.inside-within.result ≡ c.args.names.now ∷ c.args.around.now = c.inside-within.ensures ∙ ap (λ (list : List TypedName). list ∷ c.args.around.now) c.in_ok-variables.ensures in
    if_ok _ _ c.numbered_boxed.result (λ part is. subst (λ (around : Scope). IsNumberedCondition c.args.context.now around c.args.part.now part.value) lists is) c.numbered_boxed.ensures.numbered

pub numbered_condition-numbered_atom-requires-clause-sound : goal.numbered_condition-numbered_atom-requires-clause-sound
numbered_condition-numbered_atom-requires-clause-sound t c =
    let files = c.args.context.now.files in
    let around = c.args.around.now in
    let atom = c.in-Holds.atom in
    let form = sound_form files around c.args.condition.now (open_written.Holds atom) (ap out-Cond c.in-Holds.is ∙ made_written.outs-Holds atom) c.requires.sound in
    (sound_after files (AnAtom around atom) [] form.sound).0

pub numbered_condition-numbered_term-requires-clause-known : goal.numbered_condition-numbered_term-requires-clause-known
numbered_condition-numbered_term-requires-clause-known t c =
    let files = c.args.context.now.files in
    let around = c.args.around.now in
    let term = c.in-Equal.term in
    let other = c.in-Equal.other in
    let form = sound_form files around c.args.condition.now (open_written.Equal term other) (ap out-Cond c.in-Equal.is ∙ made_written.outs-Equal term other) c.requires.sound in
    let both = sound_after files (AnEquality around term other) [] form.sound in
    (and_parts (is_known files around term) (is_known files around other) both.0).0

pub numbered_condition-numbered_term-requires-in-Equal-clause-known : goal.numbered_condition-numbered_term-requires-in-Equal-clause-known
numbered_condition-numbered_term-requires-in-Equal-clause-known t c =
    let files = c.args.context.now.files in
    let around = c.args.around.now in
    let term = c.in-Equal.term in
    let other = c.in-Equal.other in
    let form = sound_form files around c.args.condition.now (open_written.Equal term other) (ap out-Cond c.in-Equal.is ∙ made_written.outs-Equal term other) c.requires.sound in
    let both = sound_after files (AnEquality around term other) [] form.sound in
    (and_parts (is_known files around term) (is_known files around other) both.0).1

pub numbered_condition-numbered_conditions-requires : goal.numbered_condition-numbered_conditions-requires
numbered_condition-numbered_conditions-requires t c =
    let files = c.args.context.now.files in
    let around = c.args.around.now in
    let parts = c.in-And.parts in
    let form = sound_form files around c.args.condition.now (open_written.And parts) (ap out-Cond c.in-And.is ∙ made_written.outs-And parts) c.requires.sound in
    let sound : AreSoundConditions files around parts.items = record { sound = form.sound; typed = c.requires.sound.typed; few = form.few } in
    ((let deep = ap (λ (one : Cond). size-Cond one) c.in-And.is ∙ sized-And parts in grind (arith, c.decreases, deep, c.deref.ensures.value)), (subst (λ (conditions : List Cond). AreSoundConditions files around conditions) (sym c.deref.ensures.value) sound, c.requires.kept))

pub numbered_condition-numbered_conditions-requires-in-Or : goal.numbered_condition-numbered_conditions-requires-in-Or
numbered_condition-numbered_conditions-requires-in-Or t c =
    let files = c.args.context.now.files in
    let around = c.args.around.now in
    let parts = c.in-Or.parts in
    let form = sound_form files around c.args.condition.now (open_written.Or parts) (ap out-Cond c.in-Or.is ∙ made_written.outs-Or parts) c.requires.sound in
    let sound : AreSoundConditions files around parts.items = record { sound = form.sound; typed = c.requires.sound.typed; few = form.few } in
    ((let deep = ap (λ (one : Cond). size-Cond one) c.in-Or.is ∙ sized-Or parts in grind (arith, c.decreases, deep, c.deref-in-Or.ensures.value)), (subst (λ (conditions : List Cond). AreSoundConditions files around conditions) (sym c.deref-in-Or.ensures.value) sound, c.requires.kept))

pub numbered_condition-numbered_boxed-requires : goal.numbered_condition-numbered_boxed-requires
numbered_condition-numbered_boxed-requires t c =
    let files = c.args.context.now.files in
    let around = c.args.around.now in
    let part = c.in-Not.part in
    let form = sound_form files around c.args.condition.now (open_written.Not part) (ap out-Cond c.in-Not.is ∙ made_written.outs-Not part) c.requires.sound in
    let sound : IsSoundCondition files around part.value = record { sound = form.sound; typed = c.requires.sound.typed; few = form.few } in
    ((let deep = ap (λ (one : Cond). size-Cond one) c.in-Not.is ∙ sized-Not part in grind (arith, c.decreases, deep, c.deref-in-Not.ensures)), (subst (λ (condition : Cond). IsSoundCondition files around condition) (sym c.deref-in-Not.ensures) sound, c.requires.kept))

pub numbered_condition-numbered_boxed-requires-in-Imply : goal.numbered_condition-numbered_boxed-requires-in-Imply
numbered_condition-numbered_boxed-requires-in-Imply t c =
    let files = c.args.context.now.files in
    let around = c.args.around.now in
    let part = c.in-Imply.part in
    let other = c.in-Imply.other in
    let form = sound_form files around c.args.condition.now (open_written.Imply part other) (ap out-Cond c.in-Imply.is ∙ made_written.outs-Imply part other) c.requires.sound in
    let both = sound_both files (condition_sites part.value around) (condition_sites other.value around) form.sound in
    let few : length (variables_of around) + (condition_variables part.value + condition_variables other.value) ≤ LONGEST_TEXT = form.few in
    let sound : IsSoundCondition files around part.value = record { sound = both.0; typed = c.requires.sound.typed; few = omega (arith, few) } in
    ((let deep = ap (λ (one : Cond). size-Cond one) c.in-Imply.is ∙ sized-Imply part other in grind (arith, c.decreases, deep, c.deref-in-Imply.ensures)), (subst (λ (condition : Cond). IsSoundCondition files around condition) (sym c.deref-in-Imply.ensures) sound, c.requires.kept))

pub numbered_condition-numbered_boxed-requires-in-Imply-2 : goal.numbered_condition-numbered_boxed-requires-in-Imply-2
numbered_condition-numbered_boxed-requires-in-Imply-2 t c =
    let files = c.args.context.now.files in
    let around = c.args.around.now in
    let part = c.in-Imply.part in
    let other = c.in-Imply.other in
    let form = sound_form files around c.args.condition.now (open_written.Imply part other) (ap out-Cond c.in-Imply.is ∙ made_written.outs-Imply part other) c.requires.sound in
    let both = sound_both files (condition_sites part.value around) (condition_sites other.value around) form.sound in
    let few : length (variables_of around) + (condition_variables part.value + condition_variables other.value) ≤ LONGEST_TEXT = form.few in
    let sound : IsSoundCondition files around other.value = record { sound = both.1; typed = c.requires.sound.typed; few = omega (arith, few) } in
    ((let deep = ap (λ (one : Cond). size-Cond one) c.in-Imply.is ∙ sized-Imply part other in grind (arith, c.decreases, deep, c.deref-in-Imply-2.ensures)), (subst (λ (condition : Cond). IsSoundCondition files around condition) (sym c.deref-in-Imply-2.ensures) sound, c.in_ok-part-in-Imply.ensures.kept))

pub numbered_condition-numbered_part-requires : goal.numbered_condition-numbered_part-requires
numbered_condition-numbered_part-requires t c =
    let files = c.args.context.now.files in
    let around = c.args.around.now in
    let names = c.in-Forall.names in
    let part = c.in-Forall.part in
    let form = sound_form files around c.args.condition.now (open_written.Forall names part) (ap out-Cond c.in-Forall.is ∙ made_written.outs-Forall names part) c.requires.sound in
    let both = sound_after files (AList names) (condition_sites part.value (names ∷ around)) form.sound in
    let sound : IsSoundCondition files (names ∷ around) part.value = record {
      sound = both.1;
      typed = typed_inside files around names both.0 c.requires.sound.typed;
      few = few_inside files around names (condition_variables part.value) form.few;
    } in
    ((let deep = ap (λ (one : Cond). size-Cond one) c.in-Forall.is ∙ sized-Forall names part in grind (arith, c.decreases, deep, c.deref-in-Forall.ensures)), (subst (λ (condition : Cond). IsSoundCondition files (names ∷ around) condition) (sym c.deref-in-Forall.ensures) sound, c.requires.kept))

pub numbered_condition-numbered_part-requires-in-Exists : goal.numbered_condition-numbered_part-requires-in-Exists
numbered_condition-numbered_part-requires-in-Exists t c =
    let files = c.args.context.now.files in
    let around = c.args.around.now in
    let names = c.in-Exists.names in
    let part = c.in-Exists.part in
    let form = sound_form files around c.args.condition.now (open_written.Exists names part) (ap out-Cond c.in-Exists.is ∙ made_written.outs-Exists names part) c.requires.sound in
    let both = sound_after files (AList names) (condition_sites part.value (names ∷ around)) form.sound in
    let sound : IsSoundCondition files (names ∷ around) part.value = record {
      sound = both.1;
      typed = typed_inside files around names both.0 c.requires.sound.typed;
      few = few_inside files around names (condition_variables part.value) form.few;
    } in
    ((let deep = ap (λ (one : Cond). size-Cond one) c.in-Exists.is ∙ sized-Exists names part in grind (arith, c.decreases, deep, c.deref-in-Exists.ensures)), (subst (λ (condition : Cond). IsSoundCondition files (names ∷ around) condition) (sym c.deref-in-Exists.ensures) sound, c.requires.kept))
