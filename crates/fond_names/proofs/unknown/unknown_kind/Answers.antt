use Rattle.std.proofs.Common.{not, ap, arith}
use Rattle.fond_text.specs.declared.code.TheConstants.{UNKNOWN_TYPE}
use Rattle.fond_ast.specs.declared.names.Kind.{Kind}
use Rattle.fond_kinds.specs.Kinds.{is_type}
use Rattle.fond_names.proofs.Missing.{missing_none, missing_next, missing_all}
use Rattle.fond_names.proofs.unknown.unknown_kind.Goals as goal

pub loop-i-init : goal.loop-i-init
loop-i-init c = missing_none (λ (kind : Kind). is_type c.args.types.now.types.now kind.name) (λ (kind : Kind). kind.place) UNKNOWN_TYPE

pub loop-i-preserved : goal.loop-i-preserved
loop-i-preserved c =
    missing_next (λ (kind : Kind). is_type c.args.types.now.types.now kind.name) (λ (kind : Kind). kind.place) UNKNOWN_TYPE c.args.kinds.now c.loop-i.i c.get-kind.result.now (not c.is_type-unknown.result) c.loop-i.first c.found_if.result c.earlier-first.result
    c.get-kind.ensures (ap not c.is_type-unknown.ensures) c.loop-i.invariant c.found_if.ensures c.earlier-first.ensures

pub returns : goal.returns
returns c =
    missing_all (λ (kind : Kind). is_type c.args.types.now.types.now kind.name) (λ (kind : Kind). kind.place) UNKNOWN_TYPE c.args.kinds.now c.loop-i.i c.loop-i.first (omega arith) c.loop-i.invariant
