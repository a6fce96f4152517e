use Rattle.std.proofs.Common.{codes, map, refl, sym, subst, arith}
use Rattle.std.specs.List.{AllByRecursion}
use Rattle.fond_tree.specs.declared.role.Role.TheVariants as role
use Rattle.fond_tree.specs.FormFaults.{Fits}
use Rattle.fond_reader.specs.Files.{is_declared}
use Rattle.fond_reader.proofs.Counts.{names_of_one_kind}
use Rattle.fond_reader.proofs.FileFacts.{short_sections, names_few, predicates_few, schemas_counted, variables_few, each_along}
use Rattle.fond_reader.proofs.FileFits.{domain_fits_at}
use Rattle.fond_reader.proofs.SchemaFacts.{schemas_choose}
use Rattle.fond_reader.proofs.domain.domain_of.Goals as goal

pub read_names-requires : goal.read_names-requires
read_names-requires c =
    let fits = domain_fits_at c.args.tree.now _ c.requires.fits c.sections_of-sections.ensures in
    record {
      types_once = fits.single (codes ":types") (1, omega arith, refl);
      constants_once = fits.single (codes ":constants") (2, omega arith, refl);
      types = fits.types;
      constants = fits.constants;
    }

pub contents_of-requires : goal.contents_of-requires
contents_of-requires c = (domain_fits_at c.args.tree.now _ c.requires.fits c.sections_of-sections.ensures).single (codes ":predicates") (3, omega arith, refl)

pub read_predicates-requires : goal.read_predicates-requires
read_predicates-requires c =
    let fits = domain_fits_at c.args.tree.now _ c.requires.fits c.sections_of-sections.ensures in subst (AllByRecursion (Fits role.Predicate)) (sym c.contents_of.ensures) fits.predicates

pub read_schemas-requires : goal.read_schemas-requires
read_schemas-requires c = (domain_fits_at c.args.tree.now _ c.requires.fits c.sections_of-sections.ensures).fit

pub invariant_of-result-clause-one_parent : goal.invariant_of-result-clause-one_parent
invariant_of-result-clause-one_parent c = names_of_one_kind c.in_ok-kinds.kinds _ c.in_ok-kinds.ensures.types

pub invariant_of-result-clause-one_kind : goal.invariant_of-result-clause-one_kind
invariant_of-result-clause-one_kind c = names_of_one_kind c.in_ok-kinds.constants _ c.in_ok-kinds.ensures.constants

pub invariant_of-result-clause-choices : goal.invariant_of-result-clause-choices
invariant_of-result-clause-choices c = schemas_choose _ c.in_ok-schemas.schemas c.in_ok-schemas.ensures

pub invariant_of-result-clause-few_kinds : goal.invariant_of-result-clause-few_kinds
invariant_of-result-clause-few_kinds c =
    let fits = domain_fits_at c.args.tree.now _ c.requires.fits c.sections_of-sections.ensures in
    let short = short_sections (codes "domain") c.args.tree.now _ fits.file c.requires.short in
    names_few _ short (codes ":types") c.in_ok-kinds.kinds c.in_ok-kinds.ensures.types

pub invariant_of-result-clause-few_constants : goal.invariant_of-result-clause-few_constants
invariant_of-result-clause-few_constants c =
    let fits = domain_fits_at c.args.tree.now _ c.requires.fits c.sections_of-sections.ensures in
    let short = short_sections (codes "domain") c.args.tree.now _ fits.file c.requires.short in
    names_few _ short (codes ":constants") c.in_ok-kinds.constants c.in_ok-kinds.ensures.constants

pub invariant_of-result-clause-few_predicates : goal.invariant_of-result-clause-few_predicates
invariant_of-result-clause-few_predicates c =
    let fits = domain_fits_at c.args.tree.now _ c.requires.fits c.sections_of-sections.ensures in
    let short = short_sections (codes "domain") c.args.tree.now _ fits.file c.requires.short in
    predicates_few _ short (codes ":predicates") c.in_ok-predicates.predicates (each_along (map is_declared c.in_ok-predicates.predicates) _ _ c.contents_of.ensures c.in_ok-predicates.ensures)

pub invariant_of-result-clause-few_schemas : goal.invariant_of-result-clause-few_schemas
invariant_of-result-clause-few_schemas c =
    let fits = domain_fits_at c.args.tree.now _ c.requires.fits c.sections_of-sections.ensures in
    let short = short_sections (codes "domain") c.args.tree.now _ fits.file c.requires.short in
    schemas_counted _ short (codes ":action") c.in_ok-schemas.schemas c.in_ok-schemas.ensures

pub invariant_of-result-clause-few_variables : goal.invariant_of-result-clause-few_variables
invariant_of-result-clause-few_variables c =
    let fits = domain_fits_at c.args.tree.now _ c.requires.fits c.sections_of-sections.ensures in
    let short = short_sections (codes "domain") c.args.tree.now _ fits.file c.requires.short in
    variables_few _ short (codes ":action") c.in_ok-schemas.schemas c.in_ok-schemas.ensures

pub returns : goal.returns
returns c =
    let fits = domain_fits_at c.args.tree.now _ c.requires.fits c.sections_of-sections.ensures in
    record {
      sections = c.sections_of-sections.result.now;
      file = fits.file;
      place = c.place.ensures;
      known = fits.known;
      single = fits.single;
      types = c.in_ok-kinds.ensures.types;
      constants = c.in_ok-kinds.ensures.constants;
      predicates = each_along (map is_declared c.in_ok-predicates.predicates) _ _ c.contents_of.ensures c.in_ok-predicates.ensures;
      schemas = c.in_ok-schemas.ensures;
    }
