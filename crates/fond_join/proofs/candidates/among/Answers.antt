use Rattle.std.proofs.Common.{◌+◌, ◌++◌, drop, get_or, sym, ap, subst, ◌∙◌, arith}
use Rattle.std.specs.List.Sorted.{IsPermutation}
use Rattle.std.proofs.lemmas.List.{append-nil, drop_all, get_or_default}
use Rattle.std.proofs.lemmas.List.Sorted.{IsNonDecreasingBy-from_sort}
use Rattle.fond_join.proofs.Rising.{pick_less, pick_none, pick_skip, pick_step, picked, picked_all}
use Rattle.fond_join.proofs.candidates.among.Goals.{then-least-object+then-is_in+in_ok-push, else-least-object, else-least-object-via-then-least-object+else-is_in, else-least-object-via-else-least-object}
use Rattle.fond_join.proofs.candidates.among.Goals as goal

pub loop-object-preserved : goal.loop-object-preserved
loop-object-preserved c =
    let range = c.args.range.now in
    let row = c.deref-object-items.result.now in
    let i = c.loop-object.object-index in
    let object = get_or row i 0 in
    let items = c.loop-object.objects.items in
    let least = c.loop-object.least in
    let is = get_or_default row i 0 object c.loop-object-test.true in
    elim c.if-least-object.branch [
      | then-least-object+then-is_in+in_ok-push w ↦
          (λ j. (ap (λ v. v.items) w.objects-is ∙ w.in_ok-push.ensures.items) j ++ picked range (w.least-is j) (drop (i + 1) row))
          ∙ pick_step range items least i object row (picked range 0 row) c.loop-object-test.true is w.if-least-object.true (sym w.is_in.ensures ∙ w.if-is_in.true) c.loop-object.invariant
      | else-least-object w ↦
          (λ j. (w.objects-is j).items ++ picked range (w.least-is j) (drop (i + 1) row))
          ∙ pick_skip range items least i object row (picked range 0 row) c.loop-object-test.true is
          (elim w.else-least-object.branch [
            | else-least-object-via-then-least-object+else-is_in v ↦ pick_none range least object (drop (i + 1) row) (sym v.is_in.ensures ∙ v.if-is_in.false)
            | else-least-object-via-else-least-object v ↦ pick_less range least object (drop (i + 1) row) (let less = v.if-least-object.false in omega arith)
          ]) c.loop-object.invariant
    ]

pub returns : goal.returns
returns c =
    let range = c.args.range.now in
    let row = c.deref-object-items.result.now in
    let items = c.loop-object.objects.items in
    let moved = subst (λ own. IsPermutation own c.sort_unstable.new.self.items) c.in_ok-sorted.ensures.items c.sort_unstable.ensures.permutation in
    sym (append-nil items)
    ∙ ap (λ rest. items ++ picked range c.loop-object.least rest) (sym (drop_all c.loop-object.object-index row c.loop-object-test.false))
    ∙ c.loop-object.invariant ∙ ap (picked range 0) c.deref-object-items.ensures.value
    ∙ picked_all range c.args.row.now c.sort_unstable.new.self.items c.requires moved (IsNonDecreasingBy-from_sort (λ x. x) c.sort_unstable.new.self.items c.sort_unstable.ensures.sorted)
