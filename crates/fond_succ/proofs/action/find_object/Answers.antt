use Rattle.std.proofs.Common.{◌≡◌, ◌∙◌, true, false, get_or, arith, sym, true≢false}
use Rattle.std.specs.Str.{bytes_eq}
use Rattle.std.proofs.lemmas.Slice.Eq.{bytes_eq-Decides}
use Rattle.fond_succ.proofs.Named.{has_name, is_in, none_more, none_of}
use Rattle.fond_succ.proofs.action.find_object.Goals as goal

pub returns-then-eq-clause-found : goal.returns-then-eq-clause-found
returns-then-eq-clause-found c =
    let items = c.as_slice-object-items.result.now in
    let object = get_or items c.loop-object.object-index 0 in
    let told : bytes_eq c.bytes.result.now c.args.name.now ≡ true = cc in (
      is_in c.args.range.now items c.loop-object.object-index c.as_slice-object-items.ensures c.loop-object-test.true,
      has_name c.args.names.now object c.get.result.now c.get.ensures ∙ sym c.bytes.ensures.value ∙ (bytes_eq-Decides c.bytes.result.now c.args.name.now).0 told,
    )

pub loop-object-preserved : goal.loop-object-preserved
loop-object-preserved c =
    let items = c.as_slice-object-items.result.now in
    let object = get_or items c.loop-object.object-index 0 in
    let told : bytes_eq c.bytes.result.now c.args.name.now ≡ false = cc in
    none_more c.args.names.now items c.args.name.now c.loop-object.object-index c.loop-object-test.true
    (λ same. true≢false (sym ((bytes_eq-Decides c.bytes.result.now c.args.name.now).1 (c.bytes.ensures.value ∙ sym (has_name c.args.names.now object c.get.result.now c.get.ensures) ∙ same)) ∙ told)) c.loop-object.invariant

pub returns-clause-none : goal.returns-clause-none
returns-clause-none c =
    none_of c.args.names.now c.args.range.now c.as_slice-object-items.result.now c.args.name.now c.loop-object.object-index c.as_slice-object-items.ensures (omega (arith, c.loop-object-test.false)) c.loop-object.invariant
