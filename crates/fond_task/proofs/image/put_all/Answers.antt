use Rattle.std.proofs.Common.{◌<◌, ap, sym, ◌∙◌, ◌+◌, drop, length, arith}
use Rattle.std.specs.List.{list_all}
use Rattle.std.proofs.lemmas.Bool.{and_parts}
use Rattle.fond_state.specs.Cubes.{literal_at}
use Rattle.fond_task.specs.Images.{changed_value, after_changes}
use Rattle.fond_task.specs.Within.{is_entry_within}
use Rattle.fond_task.proofs.Folded.{drop_next}
use Rattle.fond_task.proofs.Images.{put_more}
use Rattle.fond_task.proofs.image.put_all.Goals as goal

pub loop-entry-preserved : goal.loop-entry-preserved
loop-entry-preserved c =
    let adds = c.args.adds in
    let cube = c.args.cube.now in
    let items = c.as_slice-entry-items.result.now in
    let i = c.loop-entry.entry-index in
    let entry = c.entry-item.result in
    let out = c.loop-entry.out in
    record {
      long = c.put.ensures.same_length ∙ c.loop-entry.invariant.long;
      within = (and_parts _ _ (sym (ap (list_all (is_entry_within (length cube))) (drop_next items i entry c.loop-entry-test.true c.entry-item.is)) ∙ c.loop-entry.invariant.within)).1;
      put = λ k small.
          let here : k < length out = omega (arith, c.loop-entry.invariant.long) in
          ap (after_changes adds (changed_value adds cube (drop (i + 1) items) k)) (c.put.ensures.put k here)
          ∙ put_more adds cube entry (drop (i + 1) items) k (literal_at out k)
          ∙ ap (λ left. after_changes adds (changed_value adds cube left k) (literal_at out k)) (sym (drop_next items i entry c.loop-entry-test.true c.entry-item.is))
          ∙ c.loop-entry.invariant.put k small;
    }

pub put-requires-clause-within : goal.put-requires-clause-within
put-requires-clause-within c =
    let next = drop_next c.as_slice-entry-items.result.now c.loop-entry.entry-index c.entry-item.result c.loop-entry-test.true c.entry-item.is in
    (and_parts _ _ (sym (ap (list_all (is_entry_within (length c.args.cube.now))) next) ∙ c.loop-entry.invariant.within)).0

pub put-requires-clause-long : goal.put-requires-clause-long
put-requires-clause-long c = c.loop-entry.invariant.long ∙ c.requires.long
