-- A domain or a problem is read from each tree that fits.
use Rattle.std.proofs.Common.{◌≡◌, ◌≤◌, true, List, [], ◌∷◌, length, codes, refl}
use Rattle.std.specs.List.{AllByRecursion, AllZip}
use Rattle.fond_text.specs.Lists.{each_passes}
use Rattle.fond_text.specs.declared.code.TheConstants.{LONGEST_TEXT}
use Rattle.fond_tree.specs.Spelling.{spelling}
use Rattle.fond_tree.specs.Trees.{place_of}
use Rattle.fond_tree.specs.declared.tree.Tree.{Tree}
use Rattle.fond_ast.specs.declared.files.Domain.{Domain}
use Rattle.fond_ast.specs.declared.files.Problem.{Problem}
use Rattle.fond_ast.specs.declared.files.Schema.{Schema}
use Rattle.fond_ast.specs.declared.names.TypedName.{TypedName}
use Rattle.fond_ast.specs.declared.syntax.Cond.{Cond, Truth}
use Rattle.fond_ast.specs.declared.syntax.Effect.{Effect, Nothing}
use Rattle.fond_tree.specs.declared.role.Role.TheVariants as role
use Rattle.fond_tree.specs.Words.{is_name, has_head}
use Rattle.fond_tree.specs.FormFaults.{Fits}
use Rattle.fond_tree.proofs.FittingActions.{action_there}
use Rattle.fond_tree.proofs.FittingLeaves.{name_fits}
use Rattle.fond_reader.specs.Bodies.{is_condition, is_initial}
use Rattle.fond_reader.specs.Files.{headed, contents, is_declared, values, AreParameters, IsPrecondition, IsKeyedEffect, IsSchemaOf, AreSchemasOf, IsDomainOf, IsProblemOf}
use Rattle.fond_reader.specs.Nodes.{FitsOnce, sections_of}
use Rattle.fond_reader.specs.declared.typed.Sort.TheVariants.{Names}
use Rattle.fond_reader.proofs.Actions.{pairs_fit}
use Rattle.fond_reader.proofs.BuiltForms.{condition_built, effect_built, initial_built}
use Rattle.fond_reader.proofs.BuiltLists.{each_built, list_built, variables_built, predicate_built}
use Rattle.fond_reader.proofs.Counts.{names_of_one_kind}
use Rattle.fond_reader.proofs.FileFacts.{short_sections, names_few, goal_few, predicates_few, schemas_counted, variables_few}
use Rattle.fond_reader.proofs.FileFits.{domain_fits, problem_fits}
use Rattle.fond_reader.proofs.HeadedSections.{headed_fit}
use Rattle.fond_reader.proofs.Named.{sorted_at}
use Rattle.fond_reader.proofs.SchemaFacts.{schemas_choose}
use Rattle.fond_reader.proofs.Through.{both_hold}

parameters_built : (trees : List Tree) → FitsOnce role.Variables trees → (names : List TypedName) × AreParameters trees names
parameters_built [] fits = ([], refl)
parameters_built (t ∷ ts) fits = let names = variables_built t fits.0 in (names.0, (names.1, fits.1))

pre_built : (trees : List Tree) → FitsOnce role.Condition trees → (pre : Cond) × IsPrecondition trees pre
pre_built [] fits = (Truth, refl)
pre_built (t ∷ ts) fits = let pre = condition_built t fits.0 in (pre.0, (pre.1, fits.1))

keyed_built : (trees : List Tree) → FitsOnce role.Effect trees → (effect : Effect) × IsKeyedEffect trees effect
keyed_built [] fits = (Nothing, refl)
keyed_built (t ∷ ts) fits = let effect = effect_built t fits.0 in (effect.0, (effect.1, fits.1))

-- from each action that fits a schema is read
schema_built : (tree : Tree) → Fits role.DomainSection tree → has_head (codes ":action") tree ≡ true → (schema : Schema) × IsSchemaOf tree schema
schema_built tree fits has =
    let action = action_there tree fits has in
    let pairs = pairs_fit tree action in
    let name = name_fits action.name action.name_fits in
    let parameters = parameters_built (values (codes ":parameters") action.rest) pairs.parameters in
    let pre = pre_built (values (codes ":precondition") action.rest) pairs.pre in
    let effect = keyed_built (values (codes ":effect") action.rest) pairs.effect in (
      record { place = place_of action.name; name = name.leaf; parameters = parameters.0; pre = pre.0; effect = effect.0 },
      record {
        head = action.head;
        name = action.name;
        pairs = action.rest;
        whole = action.whole;
        named = sorted_at is_name action.name (place_of action.name) name.leaf name refl name.is;
        paired = pairs.paired;
        known = pairs.known;
        parameters = parameters.1;
        pre = pre.1;
        effect = effect.1;
      },
    )

schemas_built : (trees : List Tree) → AllByRecursion (λ section. Fits role.DomainSection section × (has_head (codes ":action") section ≡ true)) trees → (schemas : List Schema) × AreSchemasOf trees schemas
schemas_built [] all = ([], tt)
schemas_built (t ∷ ts) all =
    let here = schema_built t all.0.0 all.0.1 in
    let rest = schemas_built ts all.1 in
    (here.0 ∷ rest.0, (here.1, rest.1))

goal_built : (trees : List Tree) → AllZip Fits (role.Condition ∷ []) trees → (goal : Cond) × (each_passes (is_condition goal ∷ []) trees ≡ true)
goal_built [] fit = absurd fit
goal_built (t ∷ []) fit = let goal = condition_built t fit.0 in (goal.0, both_hold _ _ goal.1 refl)
goal_built (t ∷ u ∷ us) fit = absurd fit.1

module _ (tree : Tree) (few : length (spelling tree) ≤ LONGEST_TEXT) where
  -- a domain is read from a tree that fits
  pub domain_built : Fits role.DomainFile tree → (domain : Domain) × IsDomainOf tree domain
  domain_built fits =
      let f = domain_fits tree fits in
      let sections : List Tree = sections_of tree in
      let short = short_sections (codes "domain") tree sections f.file few in
      let kinds = list_built Names (contents (codes ":types") sections) f.types in
      let constants = list_built Names (contents (codes ":constants") sections) f.constants in
      let predicates = each_built is_declared (Fits role.Predicate) predicate_built (contents (codes ":predicates") sections) f.predicates in
      let schemas = schemas_built (headed (codes ":action") sections) (headed_fit (codes ":action") role.DomainSection sections f.fit) in (
        record {
          place = place_of tree;
          kinds = kinds.0;
          constants = constants.0;
          predicates = predicates.0;
          schemas = schemas.0;
          one_parent = names_of_one_kind kinds.0 (contents (codes ":types") sections) kinds.1;
          one_kind = names_of_one_kind constants.0 (contents (codes ":constants") sections) constants.1;
          choices = schemas_choose (headed (codes ":action") sections) schemas.0 schemas.1;
          few_kinds = names_few sections short (codes ":types") kinds.0 kinds.1;
          few_constants = names_few sections short (codes ":constants") constants.0 constants.1;
          few_predicates = predicates_few sections short (codes ":predicates") predicates.0 predicates.1;
          few_schemas = schemas_counted sections short (codes ":action") schemas.0 schemas.1;
          few_variables = variables_few sections short (codes ":action") schemas.0 schemas.1;
        },
        record {
          sections = sections;
          file = f.file;
          place = refl;
          known = f.known;
          single = f.single;
          types = kinds.1;
          constants = constants.1;
          predicates = predicates.1;
          schemas = schemas.1;
        },
      )

  -- a problem is read from a tree that fits
  pub problem_built : Fits role.ProblemFile tree → (problem : Problem) × IsProblemOf tree problem
  problem_built fits =
      let f = problem_fits tree fits in
      let sections : List Tree = sections_of tree in
      let short = short_sections (codes "problem") tree sections f.file few in
      let objects = list_built Names (contents (codes ":objects") sections) f.objects in
      let init = each_built is_initial (Fits role.Initial) initial_built (contents (codes ":init") sections) f.init in
      let goal = goal_built (contents (codes ":goal") sections) f.goal in (
        record {
          place = place_of tree;
          objects = objects.0;
          init = init.0;
          goal = goal.0;
          one_kind = names_of_one_kind objects.0 (contents (codes ":objects") sections) objects.1;
          few_objects = names_few sections short (codes ":objects") objects.0 objects.1;
          few_variables = goal_few sections short (codes ":goal") goal.0 goal.1;
        },
        record {
          sections = sections;
          file = f.file;
          place = refl;
          known = f.known;
          single = f.single;
          domain = f.domain;
          objects = objects.1;
          init = init.1;
          goal = goal.1;
        },
      )
