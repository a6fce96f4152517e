use Rattle.std.proofs.Common.{sym}
use Rattle.std.specs.Str.{bytes_eq}
use Rattle.fond_ast.specs.declared.files.Schema.{Schema}
use Rattle.fond_names.proofs.Lookups.{found_none}
use Rattle.fond_types.proofs.FilingLemmas.{position_passes}
use Rattle.fond_types.proofs.SoundLemmas.{names_schema}
use Rattle.fond_types.proofs.patterns.schema_position.Goals as goal

pub unreachable-requires : goal.unreachable-requires
unreachable-requires c =
    let files = c.args.table.now in
    let name = c.args.pattern.now.schema.name in
    names_schema files c.args.pattern.now c.requires (sym (found_none (λ (schema : Schema). bytes_eq schema.name name) files.domain.schemas (sym c.in-None.ensures)))

pub returns-clause-named : goal.returns-clause-named
returns-clause-named c =
    let name = c.args.pattern.now.schema.name in
    position_passes (λ (schema : Schema). bytes_eq schema.name name) c.args.table.now.domain.schemas c.in-Some.at (sym c.in-Some.ensures)
