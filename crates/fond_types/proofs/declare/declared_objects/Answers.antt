use Rattle.std.proofs.Common.{◌+◌, List, fold, map, drop, sym, ap, ◌∙◌, arith}
use Rattle.fond_ast.specs.declared.names.TypedName.{TypedName}
use Rattle.fond_names.specs.Files.{declarations_of}
use Rattle.fond_types.specs.Meanings.{name_also}
use Rattle.fond_names.specs.Names.{all_objects}
use Rattle.fond_names.proofs.Differs.{next_left}
use Rattle.fond_types.proofs.declare.declared_objects.Goals as goal

pub loop-i-preserved : goal.loop-i-preserved
loop-i-preserved c =
    let names = c.loop-i.names in
    let all = all_objects (declarations_of c.args.files.now) in
    let rest = map (λ (declared : TypedName). declared.name) (drop (c.loop-i.i + 1) all) in
    let left = ap (λ (some : List TypedName). fold name_also names (map (λ (declared : TypedName). declared.name) some)) (next_left all c.loop-i.i c.joined_get.result.now c.joined_get.ensures) in
    record {
      few = omega (arith, c.in_ok-declare.ensures.few, c.loop-i.invariant.few);
      numbered = c.in_ok-declare.ensures.numbered;
      named = ap (λ some. fold name_also some rest) c.in_ok-declare.ensures.named ∙ sym left ∙ c.loop-i.invariant.named;
    }
