use Rattle.std.proofs.Common.{◌≡◌, not, is_some, ap, ◌∙◌}
use Rattle.fond_store.specs.Texts.{number_beside}
use Rattle.fond_names.specs.Names.{is_among, schema_names}
use Rattle.fond_names.proofs.Missing.{negated}
use Rattle.fond_names.proofs.Positions.{among_position}
use Rattle.fond_names.proofs.leaves.is_unknown.Goals as goal

pub returns : goal.returns
returns c =
    let files = c.args.files.now in
    let name = c.args.name.now in
    let domain = files.domain.now in
    let there : is_some (number_beside files.schemas name) ≡ is_among (schema_names domain) name = ap is_some (files.schemas_indexed name) ∙ among_position (λ schema. schema.name) domain.schemas name in
    let found : c.find.result ≡ number_beside files.schemas name = c.find.ensures ∙ ap (number_beside files.schemas) c.bytes.ensures.value in
    negated (is_some c.find.result) c.is_none.result c.is_none.ensures ∙ ap not (ap is_some found ∙ there)
