use Rattle.std.proofs.Common.{◌≡◌, ◌&&◌, ◌∷◌, [], is_some, length, refl, sym, ap, ◌∙◌, subst}
use Rattle.fond_ast.specs.Ranges.{objects_of}
use Rattle.fond_ast.specs.Within.{are_ranges_within, is_condition_within, is_effect_within}
use Rattle.fond_ast.specs.declared.form.LCond.{LCond}
use Rattle.fond_ast.specs.declared.names.Kind.{Kind}
use Rattle.fond_store.specs.Texts.{number_beside}
use Rattle.fond_types.specs.Bodies.{IsNumberedCondition}
use Rattle.fond_types.specs.Meanings.{meanings, ranges_around}
use Rattle.fond_names.specs.Names.{objects_declared}
use Rattle.fond_types.proofs.AtomLemmas.{are_ranges_of}
use Rattle.fond_names.proofs.Members.{and_both}
use Rattle.fond_types.proofs.TermLemmas.{among_names}
use Rattle.fond_types.proofs.WithinLemmas.{ranges_within}
use Rattle.fond_types.proofs.schemas.numbered_schema.Goals as goal

pub returns-clause-numbered : goal.returns-clause-numbered
returns-clause-numbered c =
    let files = c.args.context.now.files in
    let predicates = c.args.context.now.predicates in
    let count = length (objects_declared files) in
    let schema = c.args.schema.now in
    let leaves = c.args.leaves.now in
    let ranges = c.in_ok-ranges.ranges in
    let objects : objects_of ranges ≡ ranges_around (meanings files).range (schema.parameters ∷ []) = are_ranges_of files schema.parameters ranges c.in_ok-ranges.ensures.ranges in
    let body = c.in_ok-pre.ensures.numbered in
    let pre = c.into_inner.result in
    let pre_is = subst (λ (one : LCond). IsNumberedCondition c.args.context.now (schema.parameters ∷ []) schema.pre one) (sym c.into_inner.ensures) body.pre_is in
    record {
      resolved = record {
        place = refl;
        named = c.in_ok-name.ensures.copy;
        ranges = c.in_ok-ranges.ensures.ranges;
        pre = pre_is.resolved;
        effect = body.effect_is.resolved;
        unfair = c.is_some-unfair.ensures ∙ ap (λ found. is_some found) (c.find.ensures ∙ ap (number_beside leaves) c.bytes.ensures.value) ∙ c.requires.leaves schema.name
            ∙ among_names (λ (leaf : Kind). leaf.name) files.side.names schema.name;
        patterns = c.requires.patterns;
      };
      within = and_both (are_ranges_within count ranges && is_condition_within count predicates pre (objects_of ranges)) (is_effect_within count predicates c.in_ok-pre.effect (objects_of ranges))
          (and_both (are_ranges_within count ranges) (is_condition_within count predicates pre (objects_of ranges)) (ranges_within files schema.parameters ranges c.in_ok-ranges.ensures.ranges)
          (ap (is_condition_within count predicates pre) objects ∙ pre_is.within))
          (ap (is_effect_within count predicates c.in_ok-pre.effect) objects ∙ body.effect_is.within);
      fluent = body.effect_is.fluent;
    }
