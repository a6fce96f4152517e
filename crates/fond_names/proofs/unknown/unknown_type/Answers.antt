use Rattle.std.proofs.Common.{arith}
use Rattle.fond_ast.specs.declared.names.TypedName.{TypedName}
use Rattle.fond_text.proofs.Earliest.{first_along}
use Rattle.fond_names.specs.Faults.{HasUnknownType}
use Rattle.fond_names.specs.Unknown.{IsUnknownType}
use Rattle.fond_names.proofs.Among.{Among, among_none, among_next, among_all}
use Rattle.fond_names.proofs.unknown.unknown_type.Goals as goal

pub loop-i-init : goal.loop-i-init
loop-i-init c = among_none (λ (name : TypedName). IsUnknownType c.args.types.now.types.now name.kinds)

pub loop-i-preserved : goal.loop-i-preserved
loop-i-preserved c =
    among_next (λ (name : TypedName). IsUnknownType c.args.types.now.types.now name.kinds) c.args.names.now c.loop-i.i c.get.result.now c.loop-i.first c.unknown_kind.result c.earlier-first.result
    c.get.ensures c.loop-i.invariant c.unknown_kind.ensures c.earlier-first.ensures

pub returns : goal.returns
returns c =
    let types = c.args.types.now.types.now in
    let names = c.args.names.now in
    first_along (Among (λ (name : TypedName). IsUnknownType types name.kinds) names) (HasUnknownType types names)
    (λ place code h. (h.0, h.1, (h.2.0, h.2.1, h.2.2, h.2.3), h.2.4)) (λ place code h. (h.0, h.1, (h.2.0, h.2.1, h.2.2, h.2.3, h.3))) c.loop-i.first
    (among_all (λ (name : TypedName). IsUnknownType types name.kinds) names c.loop-i.i c.loop-i.first (omega arith) c.loop-i.invariant)
