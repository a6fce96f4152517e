use Rattle.std.proofs.Common.{◌+◌, List, fold, map, drop, sym, ap, ◌∙◌, arith}
use Rattle.fond_ast.specs.declared.files.Declared.{Declared}
use Rattle.fond_types.specs.Meanings.{name_also}
use Rattle.fond_names.proofs.Differs.{next_left}
use Rattle.fond_types.proofs.declare.declared_predicates.Goals as goal

pub loop-i-preserved : goal.loop-i-preserved
loop-i-preserved c =
    let names = c.loop-i.names in
    let all = c.args.files.now.domain.now.predicates in
    let rest = map (λ (declared : Declared). declared.name) (drop (c.loop-i.i + 1) all) in
    let left = ap (λ (some : List Declared). fold name_also names (map (λ (declared : Declared). declared.name) some)) (next_left all c.loop-i.i c.get.result.now c.get.ensures) in
    record {
      few = omega (arith, c.in_ok-declare.ensures.few, c.loop-i.invariant.few);
      numbered = c.in_ok-declare.ensures.numbered;
      named = ap (λ some. fold name_also some rest) c.in_ok-declare.ensures.named ∙ sym left ∙ c.loop-i.invariant.named;
    }
