use Rattle.std.proofs.Common.{ap, sym, ◌∙◌, ◌+◌, length, map, drop}
use Rattle.std.specs.Prelude.{fold}
use Rattle.std.proofs.lemmas.Bool.{and_parts}
use Rattle.fond_task.specs.Within.{is_form_within}
use Rattle.fond_task.specs.Values.{value, lesser, greater}
use Rattle.fond_task.proofs.Folded.{all_next, fold_next}
use Rattle.fond_task.proofs.Images.{least_no, greatest_yes}
use Rattle.fond_task.proofs.value.+value.Goals as goal

pub returns-in-No : goal.returns-in-No
returns-in-No t c =
    let cube = c.args.cube.now in
    let items = c.deref-part-items.result.now in
    let next = c.loop-part.part-index + 1 in
    let least : _ = sym (c.in-No.ensures ∙ ap (lesser c.loop-part.least) c.value.ensures) in
    sym (sym c.loop-part.invariant.value ∙ fold_next lesser (value cube) c.loop-part.least items c.loop-part.part-index c.part-item.result c.loop-part-test.true c.part-item.is
    ∙ ap (λ a. fold lesser a (map (value cube) (drop next items))) least ∙ least_no (map (value cube) (drop next items)))

pub loop-part-preserved : goal.loop-part-preserved
loop-part-preserved t c =
    let cube = c.args.cube.now in
    let items = c.deref-part-items.result.now in
    let next = c.loop-part.part-index + 1 in
    record {
      within = (and_parts _ _ (sym (all_next (is_form_within (length cube)) items c.loop-part.part-index c.part-item.result c.loop-part-test.true c.part-item.is) ∙ c.loop-part.invariant.within)).1;
      value = ap (λ a. fold lesser a (map (value cube) (drop next items))) (c.lesser-least.ensures ∙ ap (lesser c.loop-part.least) c.value.ensures)
          ∙ sym (fold_next lesser (value cube) c.loop-part.least items c.loop-part.part-index c.part-item.result c.loop-part-test.true c.part-item.is) ∙ c.loop-part.invariant.value;
    }

pub returns-in-Yes : goal.returns-in-Yes
returns-in-Yes t c =
    let cube = c.args.cube.now in
    let items = c.deref-part-items-in-Or.result.now in
    let next = c.loop-part-2.part-index + 1 in
    let greatest : _ = sym (c.in-Yes.ensures ∙ ap (greater c.loop-part-2.greatest) c.value-in-loop-part-2.ensures) in
    sym (sym c.loop-part-2.invariant.value ∙ fold_next greater (value cube) c.loop-part-2.greatest items c.loop-part-2.part-index c.part-item-in-loop-part-2.result c.loop-part-2-test.true c.part-item-in-loop-part-2.is
    ∙ ap (λ a. fold greater a (map (value cube) (drop next items))) greatest ∙ greatest_yes (map (value cube) (drop next items)))

pub loop-part-2-preserved : goal.loop-part-2-preserved
loop-part-2-preserved t c =
    let cube = c.args.cube.now in
    let items = c.deref-part-items-in-Or.result.now in
    let next = c.loop-part-2.part-index + 1 in
    record {
      within = (and_parts _ _ (sym (all_next (is_form_within (length cube)) items c.loop-part-2.part-index c.part-item-in-loop-part-2.result c.loop-part-2-test.true c.part-item-in-loop-part-2.is) ∙ c.loop-part-2.invariant.within)).1;
      value = ap (λ a. fold greater a (map (value cube) (drop next items))) (c.greater-greatest.ensures ∙ ap (greater c.loop-part-2.greatest) c.value-in-loop-part-2.ensures)
          ∙ sym (fold_next greater (value cube) c.loop-part-2.greatest items c.loop-part-2.part-index c.part-item-in-loop-part-2.result c.loop-part-2-test.true c.part-item-in-loop-part-2.is) ∙ c.loop-part-2.invariant.value;
    }
