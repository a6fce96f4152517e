use Rattle.std.proofs.Common.{◌≡◌, [], length, map, refl, ap, ◌∙◌, arith}
use Rattle.std.specs.List.{list_all}
use Rattle.std.proofs.lemmas.Slice.Zip.{AllZip-long}
use Rattle.fond_ast.specs.declared.files.Declared.{Declared}
use Rattle.fond_ast.specs.declared.files.Domain.{Domain}
use Rattle.fond_ast.specs.declared.names.TypedName.{TypedName}
use Rattle.fond_ast.specs.Patterns.{are_patterns_within}
use Rattle.fond_ast.specs.Within.{is_condition_within, is_schema_within, are_ranges_within}
use Rattle.fond_ast.specs.declared.task.LPredicate.{LPredicate}
use Rattle.fond_text.specs.Lists.{are_distinct_texts}
use Rattle.fond_types.specs.Meanings.{meanings}
use Rattle.fond_names.specs.Names.{all_objects, objects_declared, predicates_declared}
use Rattle.fond_types.specs.Resolves.{IsResolvedPredicate, IsResolvedSchema}
use Rattle.fond_names.specs.Subtypes.{is_subtype}
use Rattle.fond_names.proofs.Ancestors.{subtype_decides}
use Rattle.fond_types.proofs.Firsts.{names_of_firsts, distinct_names}
use Rattle.fond_types.proofs.PatternLemmas.{patterns_within}
use Rattle.fond_types.proofs.RangeLemmas.{length-names}
use Rattle.fond_types.proofs.TaskLemmas.{resolved_predicates, predicate_names, predicates_rise, numbered_names}
use Rattle.fond_types.proofs.task.assembled.Goals as goal

pub invariant_of-result : goal.invariant_of-result
invariant_of-result c =
    let files = c.args.table in
    let predicates = c.args.predicates in
    let parts = c.requires.parts in
    let objects : c.into_objects-objects.result ≡ map (λ (one : TypedName). one.name) (objects_declared files) = c.into_objects-objects.ensures.objects in
    let counted : length c.into_objects-objects.result ≡ length (objects_declared files) = ap length objects ∙ length-names (λ (one : TypedName). one.name) (objects_declared files) in
    let zip = resolved_predicates files (predicates_declared files.domain) predicates c.requires.predicates in
    let zipped : length predicates ≡ length (predicates_declared files.domain) = AllZip-long (IsResolvedPredicate (meanings files) files.domain.schemas) (predicates_declared files.domain) predicates zip in
    let declared : length (meanings files).predicates ≡ length (predicates_declared files.domain) = length-names (λ (one : Declared). one.name) (predicates_declared files.domain) in
    let schemas : length c.args.parts.schemas ≡ length files.domain.schemas = AllZip-long (IsResolvedSchema (meanings files) files.side) files.domain.schemas c.args.parts.schemas parts.schemas in
    let few_names = c.into_objects-objects.ensures.few_predicates in
    let few_objects = c.into_objects-objects.ensures.few in
    let long = ap length c.into_objects-objects.ensures.objects in
    let few_schemas = files.domain.few_schemas in
    record {
      few_objects = omega (arith, few_objects, long);
      few_predicates = omega (arith, few_names, zipped, declared);
      few_schemas = omega (arith, few_schemas, schemas);
      distinct_objects = ap are_distinct_texts (objects ∙ names_of_firsts (λ (one : TypedName). one.name) [] (all_objects files)) ∙ distinct_names [] (map (λ (one : TypedName). one.name) (all_objects files)) refl;
      distinct_predicates = ap are_distinct_texts (predicate_names files (predicates_declared files.domain) predicates zip ∙ names_of_firsts (λ (one : Declared). one.name) [] files.domain.predicates)
          ∙ distinct_names [] (map (λ (one : Declared). one.name) files.domain.predicates) refl;
      distinct_schemas = ap are_distinct_texts (numbered_names (meanings files) files.side files.domain.schemas c.args.parts.schemas parts.schemas)
          ∙ c.is_well_named.ensures.schemas_distinct;
      predicates_within = ap (λ count. list_all (λ (number : LPredicate). are_ranges_within count number.ranges) predicates) counted ∙ predicates_rise files (predicates_declared files.domain) predicates zip;
      effects_fluent = parts.schemas_fluent;
      schemas_within = ap (λ count. list_all (is_schema_within count predicates) c.args.parts.schemas) counted ∙ parts.schemas_within;
      patterns_within = ap (λ count. list_all (are_patterns_within count) c.args.parts.schemas) counted
          ∙ patterns_within files c.is_well_named.ensures.schemas_distinct c.is_well_named.ensures.patterns_sound files.domain.schemas c.args.parts.schemas (λ schema within. within) parts.schemas;
      init_within = parts.init_within;
      goal_within = ap (λ count. is_condition_within count predicates c.args.parts.goal []) counted ∙ parts.goal_within;
    }

pub returns : goal.returns
returns c =
    let files = c.args.table in
    record {
      is_subtype = is_subtype files.domain.kinds;
      decides = subtype_decides files.domain.kinds;
      parts = record {
        place = ap (λ (domain : Domain). domain.place) c.domain.ensures;
        objects = c.into_objects-objects.ensures.objects;
        predicates = resolved_predicates files (predicates_declared files.domain) c.args.predicates c.requires.predicates;
        schemas = c.requires.parts.schemas;
        init = c.requires.parts.init;
        goal = c.requires.parts.goal;
      };
    }
