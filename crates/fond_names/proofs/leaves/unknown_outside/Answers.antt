use Rattle.std.proofs.Common.{arith}
use Rattle.fond_text.specs.declared.code.TheConstants.{UNKNOWN_SCHEMA}
use Rattle.fond_ast.specs.declared.names.Kind.{Kind}
use Rattle.fond_names.specs.Names.{is_among, schema_names}
use Rattle.fond_names.proofs.Missing.{missing_none, missing_next, missing_all}
use Rattle.fond_names.proofs.leaves.unknown_outside.Goals as goal

pub loop-i-init : goal.loop-i-init
loop-i-init c = missing_none (λ (one : Kind). is_among (schema_names c.args.files.now.domain.now) one.name) (λ (one : Kind). one.place) UNKNOWN_SCHEMA

pub loop-i-preserved : goal.loop-i-preserved
loop-i-preserved c =
    let files = c.args.files.now in
    missing_next (λ (one : Kind). is_among (schema_names files.domain.now) one.name) (λ (one : Kind). one.place) UNKNOWN_SCHEMA files.side.now.names c.loop-i.i c.get-leaf.result.now c.is_unknown-unknown.result c.loop-i.first c.found_if.result c.earlier-first.result
    c.get-leaf.ensures c.is_unknown-unknown.ensures c.loop-i.invariant c.found_if.ensures c.earlier-first.ensures

pub returns : goal.returns
returns c =
    missing_all (λ (one : Kind). is_among (schema_names c.args.files.now.domain.now) one.name) (λ (one : Kind). one.place) UNKNOWN_SCHEMA c.args.files.now.side.now.names c.loop-i.i c.loop-i.first (omega arith) c.loop-i.invariant
