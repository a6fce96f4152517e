use Rattle.std.proofs.Common.{◌≡◌, ◌<◌, ◌+◌, Some, None, map, take, length, slice_get, sym, ap, ◌∙◌, arith}
use Rattle.std.specs.Str.{bytes_eq}
use Rattle.fond_ast.specs.declared.files.Declared.{Declared}
use Rattle.fond_text.specs.Lists.{each_passes}
use Rattle.fond_types.specs.Context.{is_predicate}
use Rattle.fond_types.specs.Meanings.{are_typed}
use Rattle.fond_names.specs.Names.{predicate_of, predicates_declared}
use Rattle.fond_types.proofs.Passing.{passes_next}
use Rattle.fond_types.proofs.RangeLemmas.{found_passes, item_named, got_some, length-names}
use Rattle.fond_types.proofs.numbered_predicates.numbered_predicates.Goals as goal

pub numbered_predicate-requires-clause-typed : goal.numbered_predicate-requires-clause-typed
numbered_predicate-requires-clause-typed c =
    let domain = c.args.table.now.domain in
    let name = c.get.result.now in
    found_passes (λ (one : Declared). bytes_eq one.name name) (λ (one : Declared). are_typed domain.kinds one.parameters) domain.predicates c.in-Some.declared.now (sym c.in-Some.ensures) c.is_well_named.ensures.parameters_typed

pub unreachable-requires : goal.unreachable-requires
unreachable-requires c =
    let domain = c.args.table.now.domain in
    let name = c.get.result.now in
    let i = c.loop-i.i in
    let named : slice_get (predicates_declared domain) i ≡ predicate_of domain name = item_named (λ (one : Declared). one.name) domain.predicates c.predicates-names.result.now i name c.predicates-names.ensures c.get.ensures in
    let long : length c.predicates-names.result.now ≡ length (predicates_declared domain) = ap length c.predicates-names.ensures ∙ length-names (λ (one : Declared). one.name) (predicates_declared domain) in
    let low : i < length (predicates_declared domain) = omega (arith, long) in
    let some = got_some (predicates_declared domain) i low in
    let other : Some some.0 ≡ None = sym some.1 ∙ named ∙ sym c.in-None.ensures in
    cc (other)

pub loop-i-preserved : goal.loop-i-preserved
loop-i-preserved c =
    let files = c.args.table.now in
    let domain = files.domain in
    let name = c.get.result.now in
    let declared = c.in-Some.declared.now in
    let named : slice_get (predicates_declared domain) c.loop-i.i ≡ predicate_of domain name = item_named (λ (one : Declared). one.name) domain.predicates c.predicates-names.result.now c.loop-i.i name c.predicates-names.ensures c.get.ensures in
    record {
      resolved = ap (each_passes (map (is_predicate files) (take (c.loop-i.i + 1) (predicates_declared domain)))) c.in_ok-push-in-Some.ensures.ok
          ∙ passes_next (is_predicate files) (predicates_declared domain) c.loop-i.i declared c.loop-i.predicates c.in_ok-numbered_predicate-in-Some.field-0 (named ∙ sym c.in-Some.ensures) c.loop-i.invariant.resolved c.in_ok-numbered_predicate-in-Some.ensures.resolved;
      kept = c.in_ok-numbered_predicate-in-Some.ensures.kept;
    }
