use Rattle.std.proofs.Common.{◌+◌, ◌∷◌, [], map, take, sym, ap, ◌∙◌}
use Rattle.std.specs.Str.{bytes_eq}
use Rattle.std.specs.Cmp.Lexicographic.{bytes_decides}
use Rattle.std.proofs.lemmas.List.{map-append}
use Rattle.fond_ast.specs.Ranges.{objects_of}
use Rattle.fond_ast.specs.declared.names.TypedName.{TypedName}
use Rattle.fond_text.specs.Lists.{each_passes}
use Rattle.fond_types.specs.Meanings.{meanings}
use Rattle.fond_types.specs.Resolves.{are_ranges}
use Rattle.fond_kinds.specs.Kinds.{are_types}
use Rattle.fond_names.proofs.Members.{all_got}
use Rattle.fond_types.proofs.Passing.{passes_next}
use Rattle.fond_types.proofs.ranges.put_ranges.Goals as goal

pub loop-i-preserved : goal.loop-i-preserved
loop-i-preserved c =
    let all = meanings c.args.table.now in
    let names = c.args.names.now in
    let name = c.get.result.now in
    let range = c.in_ok-range_of.field-0.value in
    let put = ap objects_of c.in_ok-push.ensures.ok ∙ map-append (λ one. one.value) c.loop-i.ranges (c.in_ok-range_of.field-0 ∷ []) in
    record {
      ranges = ap (λ objects. each_passes (map (λ (one : TypedName). bytes_eq (all.range one.kinds)) (take (c.loop-i.i + 1) names)) objects) put
          ∙ passes_next (λ (one : TypedName). bytes_eq (all.range one.kinds)) names c.loop-i.i name (objects_of c.loop-i.ranges) range c.get.ensures c.loop-i.invariant.ranges
          ((bytes_decides (all.range name.kinds) range).1 (sym c.in_ok-range_of.ensures.range));
      sound = c.in_ok-range_of.ensures.sound;
    }

pub range_of-requires-clause-typed : goal.range_of-requires-clause-typed
range_of-requires-clause-typed c =
    all_got (λ (name : TypedName). are_types c.args.table.now.domain.kinds name.kinds) c.args.names.now c.loop-i.i c.get.result.now c.get.ensures c.requires.typed

pub loop-i-init : goal.loop-i-init
loop-i-init c = record {
  ranges = ap (are_ranges (meanings c.args.table.now) []) c.requires.empty;
  sound = c.requires.sound;
}
