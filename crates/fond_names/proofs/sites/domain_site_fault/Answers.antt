use Rattle.fond_ast.specs.Read.{has_few_variables}
use Rattle.fond_names.specs.Files.{declarations_of}
use Rattle.fond_names.specs.Sites.{schema_sites}
use Rattle.fond_names.proofs.Members.{all_got}
use Rattle.fond_names.proofs.SiteLemmas.{sites_more}
use Rattle.fond_names.proofs.sites.domain_site_fault.Goals as goal

pub loop-i-preserved : goal.loop-i-preserved
loop-i-preserved c =
    sites_more (declarations_of c.args.files.now) schema_sites c.args.files.now.domain.now.schemas c.loop-i.i c.get-schema.result.now c.loop-i.first c.in_ok-schema_fault.field-0 c.earlier-first.result
    c.get-schema.ensures c.loop-i.invariant c.in_ok-schema_fault.ensures c.earlier-first.ensures

pub schema_fault-requires : goal.schema_fault-requires
schema_fault-requires c = all_got has_few_variables c.args.files.now.domain.now.schemas c.loop-i.i c.get-schema.result.now c.get-schema.ensures c.args.files.now.domain.now.few_variables
