use Rattle.std.proofs.Common.{◌≡◌, ◌+◌, Bool, true, false, not, drop, length, refl, sym, ap, ◌∙◌, arith}
use Rattle.std.specs.Prelude.{◌==◌, ◌&&◌, ◌||◌, if◌then◌else◌}
use Rattle.std.specs.List.{list_all}
use Rattle.std.proofs.lemmas.Bool.{and_parts}
use Rattle.fond_text.specs.Bools.{is_same}
use Rattle.fond_state.specs.Cubes.{truth_at}
use Rattle.fond_task.specs.Steps.{adds, deletes}
use Rattle.fond_task.specs.Truth.{is_true}
use Rattle.fond_task.specs.Within.{is_entry_within}
use Rattle.fond_task.proofs.Folded.{drop_next}
use Rattle.fond_task.proofs.step.put_all.Goals as goal

-- what comes here counts with what comes later
counts_here : (value here later was now : Bool) → now ≡ (if here then value else was) → (if later then value else now) ≡ (if here || later then value else was)
counts_here value true true was now is = refl
counts_here value true false was now is = is
counts_here value false later was now is = ap (λ b. if later then value else b) is

-- an entry that gives its atom this value counts with the later entries that do
counts_with_later : (value add at holds adds deletes was now : Bool) → now ≡ (if is_same add value && at && holds then value else was) →
    (if (if value then adds else deletes) then value else now) ≡ (if (if value then (add && at && holds) || adds else (not add && at && holds) || deletes) then value else was)
counts_with_later true true at holds adds deletes was now is = counts_here true (at && holds) adds was now is
counts_with_later true false at holds adds deletes was now is = counts_here true false adds was now is
counts_with_later false false at holds adds deletes was now is = counts_here false (at && holds) deletes was now is
counts_with_later false true at holds adds deletes was now is = counts_here false false deletes was now is

pub loop-entry-preserved : goal.loop-entry-preserved
loop-entry-preserved c =
    let state = c.args.state.now in
    let value = c.args.value in
    let items = c.as_slice-entry-items.result.now in
    let entry = c.entry-item.result in
    let later = drop (c.loop-entry.entry-index + 1) items in
    let next = drop_next items c.loop-entry.entry-index c.entry-item.result c.loop-entry-test.true c.entry-item.is in
    record {
      long = c.put.ensures.same_length ∙ c.loop-entry.invariant.long;
      within = (and_parts _ _ (sym (ap (list_all (is_entry_within (length state))) next) ∙ c.loop-entry.invariant.within)).1;
      put = λ k small. counts_with_later value entry.add (entry.atom == k) (is_true state entry.cond) (adds state later k) (deletes state later k) _ _ (c.put.ensures.put k (omega arith))
          ∙ sym (ap (λ left. if (if value then adds state left k else deletes state left k) then value else truth_at c.loop-entry.out k) next) ∙ c.loop-entry.invariant.put k small;
    }

pub put-requires-clause-within : goal.put-requires-clause-within
put-requires-clause-within c =
    let next = drop_next c.as_slice-entry-items.result.now c.loop-entry.entry-index c.entry-item.result c.loop-entry-test.true c.entry-item.is in
    (and_parts _ _ (sym (ap (list_all (is_entry_within (length c.args.state.now))) next) ∙ c.loop-entry.invariant.within)).0

pub put-requires-clause-long : goal.put-requires-clause-long
put-requires-clause-long c = c.loop-entry.invariant.long ∙ c.requires.long
