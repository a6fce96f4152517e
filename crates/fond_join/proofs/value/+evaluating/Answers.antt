use Rattle.std.proofs.Common.{◌≡◌, ◌+◌, ◌-◌, ◌++◌, ◌∷◌, [], Some, length, map, take, drop, get_or, refl, sym, ap, subst, ◌∙◌, IfOk, vec_len, false, arith}
use Rattle.std.proofs.lemmas.Grind.{common_steps}
use Rattle.std.specs.Prelude.{fold}
use Rattle.std.proofs.lemmas.List.{get_or_default}
use Rattle.fond_ast.specs.Ranges.{RangeList, objects_of}
use Rattle.fond_ast.specs.declared.form.LCond.{LCond}
use Rattle.fond_ast.specs.Conditions.{tuples}
use Rattle.fond_task.specs.Junctions.{joined, joined_all}
use Rattle.fond_task.specs.declared.form.Junction.TheVariants.{All, Any}
use Rattle.fond_join.specs.Partial.{partial_value}
use Rattle.fond_join.proofs.FixedValues.{over_is, told_open}
use Rattle.fond_join.proofs.Items.{first_item, rest_length, popped}
use Rattle.fond_join.proofs.Joined.{at_exists, at_forall, joined_alike, joined_next, over_first, over_rest}
use Rattle.fond_join.proofs.Local.{over_alike}
use Rattle.fond_join.proofs.Sound.{Tells}
use Rattle.fond_join.proofs.Weights.{total, weight, weight-And, weight-Or, weight-Not, weight-Imply, weight-Forall, weight-Exists, part_weight}
use Rattle.fond_join.proofs.value.+evaluating.Goals as goal

pub parts_value-value-requires : goal.parts_value-value-requires
parts_value-value-requires t c = (let lighter = part_weight c.args.parts.now c.loop-part.part-index c.part-item.result c.loop-part-test.true c.part-item.is in omega arith, tt)

pub parts_value-loop-part-preserved : goal.parts_value-loop-part-preserved
parts_value-loop-part-preserved t c =
    let env = c.args.scope.now.env.items in
    let of = partial_value c.args.facts.now.task.now env in
    let i = c.loop-part.part-index in
    let one = c.in_ok-value.ensures.value ∙ ap (λ around. partial_value c.args.facts.now.task.now around c.part-item.result) c.loop-part.invariant.same in
    record {
      same = c.in_ok-value.ensures.same ∙ c.loop-part.invariant.same;
      left = ap (λ v. fold (joined c.args.junction) v (map of (drop (i + 1) c.args.parts.now))) (c.joined-all.ensures ∙ ap (joined c.args.junction c.loop-part.all) one)
          ∙ joined_next c.args.junction of c.loop-part.all c.args.parts.now i c.part-item.result c.loop-part-test.true c.part-item.is
          ∙ c.loop-part.invariant.left;
    }

pub parts_value-returns-then-is_decided-clause-value : goal.parts_value-returns-then-is_decided-clause-value
parts_value-returns-then-is_decided-clause-value t c =
    let env = c.args.scope.now.env.items in
    let of = partial_value c.args.facts.now.task.now env in
    let i = c.loop-part.part-index in
    let one = c.in_ok-value.ensures.value ∙ ap (λ around. partial_value c.args.facts.now.task.now around c.part-item.result) c.loop-part.invariant.same in
    sym (c.is_decided.ensures c.if-is_decided.true (map of (drop (i + 1) c.args.parts.now)))
    ∙ ap (λ v. fold (joined c.args.junction) v (map of (drop (i + 1) c.args.parts.now))) (c.joined-all.ensures ∙ ap (joined c.args.junction c.loop-part.all) one)
    ∙ joined_next c.args.junction of c.loop-part.all c.args.parts.now i c.part-item.result c.loop-part-test.true c.part-item.is
    ∙ c.loop-part.invariant.left

pub range_value-range_value-requires : goal.range_value-range_value-requires
range_value-range_value-requires t c = (let shorter = rest_length c.args.ranges.now c.in-len1-up.len_at_least in omega arith, tt)

pub range_value-loop-object-init : goal.range_value-loop-object-init
range_value-loop-object-init t c =
    let task = c.args.facts.now.task.now in
    let env = c.args.scope.now.env.items in
    let whole = first_item c.args.ranges.now c.range-item.result c.in-len1-up.len_at_least c.range-item.is in
    let rest = objects_of (take (length c.args.ranges.now - 1) (drop 1 c.args.ranges.now)) in
    record {
      same = refl;
      left = ap (λ v. fold (joined c.args.junction) v (map (over_rest task env c.args.part.now c.args.junction rest) c.as_slice-object-items.result.now)) c.neutral-all.ensures
          ∙ ap (λ objects. joined_all c.args.junction (map (over_rest task env c.args.part.now c.args.junction rest) objects)) (c.as_slice-object-items.ensures ∙ c.deref.ensures)
          ∙ over_first task env c.args.part.now c.args.junction c.range-item.result.value rest
          ∙ ap (λ ranges. joined_all c.args.junction (map (λ objects. partial_value task (env ++ map Some objects) c.args.part.now) (tuples (objects_of ranges)))) (sym whole);
    }

pub range_value-loop-object-preserved : goal.range_value-loop-object-preserved
range_value-loop-object-preserved t c =
    let task = c.args.facts.now.task.now in
    let env = c.args.scope.now.env.items in
    let part = c.args.part.now in
    let junction = c.args.junction in
    let i = c.loop-object.object-index in
    let objects = c.as_slice-object-items.result.now in
    let object = get_or objects i 0 in
    let rest = objects_of (take (length c.args.ranges.now - 1) (drop 1 c.args.ranges.now)) in
    let of = over_rest task env part junction rest in
    let grown = c.in_ok-push-in-len1-up.ensures.items ∙ ap (λ around. around ++ Some object ∷ []) c.loop-object.invariant.same in
    let inside = c.in_ok-one-in-len1-up.ensures.same ∙ grown in
    let one = c.in_ok-one-in-len1-up.ensures.value ∙ ap (λ around. joined_all junction (map (λ objects. partial_value task (around ++ map Some objects) part) (tuples rest))) grown in
    let long : vec_len c.range_value.new.scope.env ≡ length c.range_value.new.scope.env.items = grind (arith, common_steps) in
    record {
      same = popped env c.range_value.new.scope.env.items c.pop.new.self.items (Some object) (vec_len c.range_value.new.scope.env) inside long c.pop.ensures.rest;
      left = ap (λ v. fold (joined junction) v (map of (drop (i + 1) objects))) (c.joined-all.ensures ∙ ap (joined junction c.loop-object.all) one)
          ∙ joined_next junction of c.loop-object.all objects i object c.loop-object-test.true (get_or_default objects i 0 object c.loop-object-test.true)
          ∙ c.loop-object.invariant.left;
    }

pub range_value-returns-then-is_decided-clause-value : goal.range_value-returns-then-is_decided-clause-value
range_value-returns-then-is_decided-clause-value t c =
    let task = c.args.facts.now.task.now in
    let env = c.args.scope.now.env.items in
    let part = c.args.part.now in
    let junction = c.args.junction in
    let i = c.loop-object.object-index in
    let objects = c.as_slice-object-items.result.now in
    let object = get_or objects i 0 in
    let rest = objects_of (take (length c.args.ranges.now - 1) (drop 1 c.args.ranges.now)) in
    let of = over_rest task env part junction rest in
    let grown = c.in_ok-push-in-len1-up.ensures.items ∙ ap (λ around. around ++ Some object ∷ []) c.loop-object.invariant.same in
    let one = c.in_ok-one-in-len1-up.ensures.value ∙ ap (λ around. joined_all junction (map (λ objects. partial_value task (around ++ map Some objects) part) (tuples rest))) grown in
    sym (c.is_decided.ensures c.if-is_decided.true (map of (drop (i + 1) objects)))
    ∙ ap (λ v. fold (joined junction) v (map of (drop (i + 1) objects))) (c.joined-all.ensures ∙ ap (joined junction c.loop-object.all) one)
    ∙ joined_next junction of c.loop-object.all objects i object c.loop-object-test.true (get_or_default objects i 0 object c.loop-object-test.true)
    ∙ c.loop-object.invariant.left

pub range_value-returns-then-is_decided-clause-same : goal.range_value-returns-then-is_decided-clause-same
range_value-returns-then-is_decided-clause-same t c =
    let env = c.args.scope.now.env.items in
    let object = get_or c.as_slice-object-items.result.now c.loop-object.object-index 0 in
    let grown = c.in_ok-push-in-len1-up.ensures.items ∙ ap (λ around. around ++ Some object ∷ []) c.loop-object.invariant.same in
    let long : vec_len c.range_value.new.scope.env ≡ length c.range_value.new.scope.env.items = grind (arith, common_steps) in
    popped env c.range_value.new.scope.env.items c.pop.new.self.items (Some object) (vec_len c.range_value.new.scope.env) (c.in_ok-one-in-len1-up.ensures.same ∙ grown) long c.pop.ensures.rest

pub range_value-returns-then-not-varies-clause-value : goal.range_value-returns-then-not-varies-clause-value
range_value-returns-then-not-varies-clause-value t c =
    let task = c.args.facts.now.task.now in
    let env = c.args.scope.now.env.items in
    let part = c.args.part.now in
    let junction = c.args.junction in
    let i = c.loop-object.object-index in
    let objects = c.as_slice-object-items.result.now in
    let object = get_or objects i 0 in
    let rest = objects_of (take (length c.args.ranges.now - 1) (drop 1 c.args.ranges.now)) in
    let of = over_rest task env part junction rest in
    let grown = c.in_ok-push-in-len1-up.ensures.items ∙ ap (λ around. around ++ Some object ∷ []) c.loop-object.invariant.same in
    let one = c.in_ok-one-in-len1-up.ensures.value ∙ ap (λ around. joined_all junction (map (λ objects. partial_value task (around ++ map Some objects) part) (tuples rest))) grown in
    let long = c.len-number.ensures in
    let none = c.has_variables-varies.ensures c.if-not-varies.true (length env) (omega (arith, long)) (omega (arith, long)) in
    c.joined-all.ensures ∙ ap (joined junction c.loop-object.all) one
    ∙ sym (joined_alike junction of c.loop-object.all (of object) (λ other. over_alike task part env junction rest other object none) (drop (i + 1) objects))
    ∙ joined_next junction of c.loop-object.all objects i object c.loop-object-test.true (get_or_default objects i 0 object c.loop-object-test.true)
    ∙ c.loop-object.invariant.left

pub range_value-returns-then-not-varies-clause-same : goal.range_value-returns-then-not-varies-clause-same
range_value-returns-then-not-varies-clause-same t c =
    let env = c.args.scope.now.env.items in
    let object = get_or c.as_slice-object-items.result.now c.loop-object.object-index 0 in
    let grown = c.in_ok-push-in-len1-up.ensures.items ∙ ap (λ around. around ++ Some object ∷ []) c.loop-object.invariant.same in
    let long : vec_len c.range_value.new.scope.env ≡ length c.range_value.new.scope.env.items = grind (arith, common_steps) in
    popped env c.range_value.new.scope.env.items c.pop.new.self.items (Some object) (vec_len c.range_value.new.scope.env) (c.in_ok-one-in-len1-up.ensures.same ∙ grown) long c.pop.ensures.rest

pub value-returns-in-Forall-clause-value : goal.value-returns-in-Forall-clause-value
value-returns-in-Forall-clause-value t c =
    let task = c.args.facts.now.task.now in
    let env = c.args.scope.now.env.items in
    let all = λ (ranges : RangeList) (part : LCond). joined_all All (map (λ objects. partial_value task (env ++ map Some objects) part) (tuples (objects_of ranges))) in
    subst (λ v. IfOk c.quantified_value.result (λ value. value ≡ v))
    (ap (λ ranges. all ranges c.deref-in-Forall.result.now) c.as_slice.ensures ∙ ap (all c.in-Forall.ranges) c.deref-in-Forall.ensures
    ∙ at_forall task env c.in-Forall.ranges c.in-Forall.part ∙ ap (partial_value task env) (sym c.in-Forall.is)) c.quantified_value.ensures.value

pub value-returns-in-Exists-clause-value : goal.value-returns-in-Exists-clause-value
value-returns-in-Exists-clause-value t c =
    let task = c.args.facts.now.task.now in
    let env = c.args.scope.now.env.items in
    let all = λ (ranges : RangeList) (part : LCond). joined_all Any (map (λ objects. partial_value task (env ++ map Some objects) part) (tuples (objects_of ranges))) in
    subst (λ v. IfOk c.quantified_value-in-Exists.result (λ value. value ≡ v))
    (ap (λ ranges. all ranges c.deref-in-Exists.result.now) c.as_slice-in-Exists.ensures ∙ ap (all c.in-Exists.ranges) c.deref-in-Exists.ensures
    ∙ at_exists task env c.in-Exists.ranges c.in-Exists.part ∙ ap (partial_value task env) (sym c.in-Exists.is)) c.quantified_value-in-Exists.ensures.value

pub value-parts_value-requires : goal.value-parts_value-requires
value-parts_value-requires t c =
    (let heavy = ap weight c.in-And.is ∙ weight-And c.in-And.parts in let parts = ap (λ items. total (map weight items)) c.deref.ensures.value in omega arith, tt)

pub value-parts_value-requires-in-Or : goal.value-parts_value-requires-in-Or
value-parts_value-requires-in-Or t c =
    (let heavy = ap weight c.in-Or.is ∙ weight-Or c.in-Or.parts in let parts = ap (λ items. total (map weight items)) c.deref-in-Or.ensures.value in omega arith, tt)

pub value-value-requires : goal.value-value-requires
value-value-requires t c = (let heavy = ap weight c.in-Not.is ∙ weight-Not c.in-Not.part in let part = ap weight c.deref-in-Not.ensures in omega arith, tt)

pub value-value-requires-in-Imply : goal.value-value-requires-in-Imply
value-value-requires-in-Imply t c =
    (let heavy = ap weight c.in-Imply.is ∙ weight-Imply c.in-Imply.part c.in-Imply.other in let part = ap weight c.deref-in-Imply.ensures in omega arith, tt)

pub value-value-requires-in-Imply-2 : goal.value-value-requires-in-Imply-2
value-value-requires-in-Imply-2 t c =
    (let heavy = ap weight c.in-Imply.is ∙ weight-Imply c.in-Imply.part c.in-Imply.other in let other = ap weight c.deref-in-Imply-2.ensures in omega arith, tt)

pub value-quantified_value-requires : goal.value-quantified_value-requires
value-quantified_value-requires t c = (
  let heavy = ap weight c.in-Forall.is ∙ weight-Forall c.in-Forall.ranges c.in-Forall.part in
      let part = ap weight c.deref-in-Forall.ensures in
      let long = ap length c.as_slice.ensures in
      omega arith,
  tt,
)

pub value-quantified_value-requires-in-Exists : goal.value-quantified_value-requires-in-Exists
value-quantified_value-requires-in-Exists t c = (
  let heavy = ap weight c.in-Exists.is ∙ weight-Exists c.in-Exists.ranges c.in-Exists.part in
      let part = ap weight c.deref-in-Exists.ensures in
      let long = ap length c.as_slice-in-Exists.ensures in
      omega arith,
  tt,
)

pub quantified_value-returns-in_default : goal.quantified_value-returns-in_default
quantified_value-returns-in_default t c =
    let task = c.args.facts.now.task.now in
    let env = c.args.scope.now.env.items in
    let part = c.args.part.now in
    record {
      value = c.over.ensures
          ∙ over_is c.args.junction c.fixed_value.result (λ objects. partial_value task (env ++ map Some objects) part)
          (λ objects. subst (λ v. Tells false v (partial_value task (env ++ map Some objects) part)) (sym c.fixed_value.ensures) (told_open task part (env ++ map Some objects)))
          c.in_default.not-Unknown (objects_of c.args.ranges.now);
      same = refl;
    }
