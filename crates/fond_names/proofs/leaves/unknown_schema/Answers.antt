use Rattle.std.proofs.Common.{map}
use Rattle.fond_text.specs.declared.code.TheConstants.{UNKNOWN_SCHEMA}
use Rattle.fond_ast.specs.declared.files.Pattern.{Pattern}
use Rattle.fond_ast.specs.declared.names.Kind.{Kind}
use Rattle.fond_names.specs.Names.{is_among, schema_names}
use Rattle.fond_names.proofs.Missing.{missing_both}
use Rattle.fond_names.proofs.leaves.unknown_schema.Goals as goal

pub returns : goal.returns
returns c =
    let side = c.args.files.now.side.now in
    missing_both (λ (one : Kind). is_among (schema_names c.args.files.now.domain.now) one.name) (λ (one : Kind). one.place) UNKNOWN_SCHEMA side.names (map (λ (pattern : Pattern). pattern.schema) side.patterns)
    c.unknown_outside-outside.result c.unknown_in_front.result c.earlier.result c.unknown_outside-outside.ensures c.unknown_in_front.ensures c.earlier.ensures
