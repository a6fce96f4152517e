use Rattle.std.proofs.Common.{[], inl, inr, sym, ◌∙◌}
use Rattle.std.proofs.lemmas.List.Folds.{list_all-append}
use Rattle.fond_ast.specs.declared.files.Declared.{Declared}
use Rattle.fond_ast.specs.declared.names.TypedName.{TypedName}
use Rattle.fond_kinds.specs.Kinds.{are_types}
use Rattle.fond_text.specs.declared.place.FileKind.TheVariants as kind
use Rattle.fond_names.specs.Files.{declarations_of}
use Rattle.fond_types.specs.Meanings.{are_typed}
use Rattle.fond_names.specs.Names.{all_objects}
use Rattle.fond_types.proofs.CleanLemmas.{typed_if_clean}
use Rattle.fond_types.proofs.Firsts.{names_of_firsts}
use Rattle.fond_names.proofs.Members.{and_both, all_from}
use Rattle.fond_types.proofs.SoundLemmas.{sound_if_clean}
use Rattle.fond_types.proofs.TaskLemmas.{rooted_if_clean, distinct_schemas}
use Rattle.fond_types.proofs.table.Table.of.Goals as goal

pub invariant_of-result : goal.invariant_of-result
invariant_of-result c =
    let files = declarations_of c.args.files.now in
    let types = files.domain.kinds in
    let clean = c.requires in (
      record {
        rooted = rooted_if_clean types (λ place code h. clean kind.Domain place code (inl h));
        objects_typed = list_all-append (λ (name : TypedName). are_types types name.kinds) files.domain.constants files.problem.objects
            ∙ and_both (are_typed types files.domain.constants) (are_typed types files.problem.objects)
            (typed_if_clean types files.domain.constants (λ place code h. clean kind.Domain place code (inr (inl h))))
            (typed_if_clean types files.problem.objects (λ place code h. clean kind.Problem place code (inl h)));
        parameters_typed = all_from (λ (declared : Declared). are_typed types declared.parameters) files.domain.predicates
            (λ declared within. typed_if_clean types declared.parameters (λ place code h. clean kind.Domain place code (inr (inr (inr (inl (declared, within, h)))))));
        schemas_distinct = distinct_schemas files.domain.schemas (λ place code h. clean kind.Domain place code (inr (inr (inr (inr (inr (inl h)))))));
        patterns_sound = sound_if_clean files (clean kind.Side);
      },
      c.in_ok-predicates.ensures ∙ sym (names_of_firsts (λ (one : Declared). one.name) [] files.domain.predicates),
      c.in_ok-objects.ensures ∙ sym (names_of_firsts (λ (one : TypedName). one.name) [] (all_objects files)),
    )
