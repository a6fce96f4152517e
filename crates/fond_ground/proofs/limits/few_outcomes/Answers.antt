use Rattle.std.proofs.Common.{◌∙◌, ◌+◌, ◌++◌, take, drop, sym, ap, refl}
use Rattle.std.specs.List.{list_all}
use Rattle.std.proofs.lemmas.List.{take-append-drop}
use Rattle.fond_join.specs.Kept.{kept_args}
use Rattle.fond_ground.specs.Limits.{has_few, has_few_outcomes}
use Rattle.fond_ground.proofs.Actions.{all_pushed, mapped_at, take_item}
use Rattle.fond_ground.proofs.Counts.{drop_item}
use Rattle.fond_ground.proofs.limits.few_outcomes.Goals as goal

pub returns-then-not-has_few-clause-many : goal.returns-then-not-has_few-clause-many
returns-then-not-has_few-clause-many c =
    let task = c.args.task.now in
    let schema = c.get-schema.result.now in
    let i = c.loop-i.i in
    let kept = mapped_at (kept_args task) task.schemas c.args.lists.now i schema c.index-lists-i.result c.requires c.get-schema.ensures c.index-lists-i.is in
    record {
      before = take i task.schemas;
      item = schema;
      after = drop (i + 1) task.schemas;
      split = sym (take-append-drop i task.schemas) ∙ ap (λ rest. take i task.schemas ++ rest) (drop_item task.schemas i schema c.get-schema.ensures);
      has = (c.loop-i.invariant, sym (ap (list_all (has_few schema.effect)) kept) ∙ sym c.has_few.ensures ∙ c.if-not-has_few.true, refl);
    }

pub loop-i-preserved : goal.loop-i-preserved
loop-i-preserved c =
    let task = c.args.task.now in
    let schema = c.get-schema.result.now in
    let i = c.loop-i.i in
    let kept = mapped_at (kept_args task) task.schemas c.args.lists.now i schema c.index-lists-i.result c.requires c.get-schema.ensures c.index-lists-i.is in
    all_pushed (has_few_outcomes task) (take i task.schemas) (take (i + 1) task.schemas) schema (take_item task.schemas i schema c.get-schema.ensures)
    (sym (ap (list_all (has_few schema.effect)) kept) ∙ sym c.has_few.ensures ∙ c.if-not-has_few.false) c.loop-i.invariant
