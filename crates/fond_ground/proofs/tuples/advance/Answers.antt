use Rattle.std.proofs.Common.{ℕ, ◌+◌, ◌-◌, ◌∙◌, false, length, set, drop, sym, ap, arith}
use Rattle.std.proofs.lemmas.Grind.{common_steps}
use Rattle.fond_ast.specs.Ranges.{objects_of}
use Rattle.fond_ground.specs.Places.{tuples_after, tuples_from}
use Rattle.fond_ground.proofs.Odometer.{drop_end, length-ranges, reset_none, Round, round-object, round-place, round-moves, round-resets, round-ends}
use Rattle.fond_ground.proofs.tuples.advance.Goals as goal

pub loop-at-init : goal.loop-at-init
loop-at-init c =
    let long = length-ranges c.args.ranges.now in
    let same = c.requires.long in
    record {
      within = omega arith;
      long = c.requires.long;
      reset = sym (reset_none c.args.places.now.items (length c.args.ranges.now) (omega arith));
      done = ap (λ ranges. tuples_after ranges (drop (length c.args.ranges.now) c.args.places.now.items)) (drop_end (objects_of c.args.ranges.now) (length c.args.ranges.now) (omega arith));
    }

pub overflow_sub-len : goal.overflow_sub-len
overflow_sub-len c =
    let i = c.loop-at.invariant in
    let r : Round c.args.ranges.now c.args.places.now.items c.loop-at.places.items c.loop-at.at c.index-ranges-at.result c.index.result.now =
    record { some = c.loop-at-test.true; within = i.within; long = c.requires.long; reset = i.reset; done = i.done; range_is = c.index-ranges-at.is; place_is = c.index.ensures } in
    let some = round-object _ _ _ _ _ _ r c.requires.some in
    let e = ap length c.deref.ensures in
    let f = c.len.ensures in
    omega arith

pub returns-then-index-len-clause-next : goal.returns-then-index-len-clause-next
returns-then-index-len-clause-next c =
    let i = c.loop-at.invariant in
    let r : Round c.args.ranges.now c.args.places.now.items c.loop-at.places.items c.loop-at.at c.index-ranges-at.result c.index.result.now =
    record { some = c.loop-at-test.true; within = i.within; long = c.requires.long; reset = i.reset; done = i.done; range_is = c.index-ranges-at.is; place_is = c.index.ensures } in
    let again : Round c.args.ranges.now c.args.places.now.items c.loop-at.places.items c.loop-at.at c.index-ranges-at.result c.index_mut.result.now =
    record { some = c.loop-at-test.true; within = i.within; long = c.requires.long; reset = i.reset; done = i.done; range_is = c.index-ranges-at.is; place_is = c.index_mut.ensures.value } in
    let e = ap length c.deref.ensures in
    let f = c.len.ensures in
    let more = c.if-index-len.true in
    round-moves _ _ _ _ _ _ r c.requires.some (omega arith)
    ∙ ap (λ (place : ℕ). tuples_from false (objects_of c.args.ranges.now) (set c.loop-at.places.items (c.loop-at.at - 1) (place + 1))) (round-place _ _ _ _ _ _ r ∙ sym (round-place _ _ _ _ _ _ again))

pub loop-at-preserved : goal.loop-at-preserved
loop-at-preserved c =
    let i = c.loop-at.invariant in
    let r : Round c.args.ranges.now c.args.places.now.items c.loop-at.places.items c.loop-at.at c.index-ranges-at.result c.index.result.now =
    record { some = c.loop-at-test.true; within = i.within; long = c.requires.long; reset = i.reset; done = i.done; range_is = c.index-ranges-at.is; place_is = c.index.ensures } in
    let e = ap length c.deref.ensures in
    let f = c.len.ensures in
    let end = c.if-index-len.false in
    let within = i.within in
    let long = i.long in
    record {
      within = omega arith;
      long = grind (arith, common_steps);
      reset = round-resets _ _ _ _ _ _ r;
      done = round-ends _ _ _ _ _ _ r (omega arith);
    }
