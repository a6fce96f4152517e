use Rattle.std.proofs.Common.{List, subst, arith}
use Rattle.fond_ast.specs.declared.files.Declared.{Declared}
use Rattle.fond_ast.specs.declared.names.TypedName.{TypedName}
use Rattle.fond_text.specs.Firsts.{IsFirst}
use Rattle.fond_names.specs.Faults.{HasUnknownType}
use Rattle.fond_names.proofs.Among.{among_none, among_next, among_all}
use Rattle.fond_names.proofs.unknown.unknown_parameter.Goals as goal

pub loop-i-init : goal.loop-i-init
loop-i-init c = among_none (λ (declared : Declared). HasUnknownType c.args.files.now.domain.now.kinds declared.parameters)

pub loop-i-preserved : goal.loop-i-preserved
loop-i-preserved c =
    let files = c.args.files.now in
    let declared = c.get.result.now in
    among_next (λ (declared : Declared). HasUnknownType files.domain.now.kinds declared.parameters) files.domain.now.predicates c.loop-i.i declared c.loop-i.first c.unknown_type.result c.earlier-first.result
    c.get.ensures c.loop-i.invariant (subst (λ (types : List TypedName). IsFirst (HasUnknownType types declared.parameters) c.unknown_type.result) files.types_declared c.unknown_type.ensures) c.earlier-first.ensures

pub returns : goal.returns
returns c =
    let domain = c.args.files.now.domain.now in
    among_all (λ (declared : Declared). HasUnknownType domain.kinds declared.parameters) domain.predicates c.loop-i.i c.loop-i.first (omega arith) c.loop-i.invariant
