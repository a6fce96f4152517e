use Rattle.std.proofs.Common.{◌*◌, ◌+◌, ◌∙◌, length, map, drop, min, sym, ap, arith}
use Rattle.std.proofs.lemmas.List.{length-map}
use Rattle.fond_text.specs.Lists.{concatenations}
use Rattle.fond_oneof.specs.Outcomes.{guarded, outcome_lists}
use Rattle.fond_oneof.proofs.Counted.{counted_product}
use Rattle.fond_oneof.proofs.Lists.{drop_item, length-pairs}
use Rattle.fond_oneof.proofs.Meanings.{outcomes-When}
use Rattle.fond_oneof.proofs.count.+count.Goals as goal

pub loop-part-preserved : goal.loop-part-preserved
loop-part-preserved t c =
    let parts = c.deref-part-items.result.now in
    let i = c.loop-part.part-index in
    let part = c.part-item.result in
    let rest = length (concatenations (map outcome_lists (drop (i + 1) parts))) in
    record {
      most = omega (arith, c.min-all.ensures);
      left = counted_product 1000000 c.loop-part.all (length (outcome_lists part)) rest c.count.result c.min-all.result c.count.ensures c.min-all.ensures
          ∙ ap (λ n. min (c.loop-part.all * n) 1000000) (sym (ap (λ items. length (concatenations (map outcome_lists items))) (drop_item parts i part c.loop-part-test.true c.part-item.is)
          ∙ length-pairs (outcome_lists part) (concatenations (map outcome_lists (drop (i + 1) parts)))))
          ∙ c.loop-part.invariant.left;
    }

pub returns-in-When : goal.returns-in-When
returns-in-When t c =
    c.count-in-When.ensures
    ∙ ap (λ n. min n 1000000) (ap (λ effect. length (outcome_lists effect)) c.deref.ensures ∙ sym (length-map (outcome_lists c.in-When.part.value) (map (guarded c.in-When.field-0)))
    ∙ ap length (sym (ap outcome_lists c.in-When.is ∙ outcomes-When c.in-When.field-0 c.in-When.part)))
