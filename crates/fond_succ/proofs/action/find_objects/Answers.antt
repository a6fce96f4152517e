use Rattle.std.proofs.Common.{◌≡◌, ◌<◌, ◌+◌, ◌∙◌, Some, slice_get, length, arith, sym, ap, subst}
use Rattle.std.proofs.lemmas.Option.{slice_get-get_or}
use Rattle.fond_succ.proofs.Places.{AreSoFar, all_there, as_many, none_there, objects_at, one_more, range_within, some_leaf, tests_long}
use Rattle.fond_succ.proofs.action.find_objects.Goals as goal

pub returns-then-len-leaves : goal.returns-then-len-leaves
returns-then-len-leaves c = λ objects fits named. c.if-len-leaves.true (c.len.ensures ∙ sym (tests_long c.args.ranges.now) ∙ as_many c.args.names.now c.args.ranges.now c.args.leaves.now c.requires.leaves objects fits named)

pub find_object-requires : goal.find_object-requires
find_object-requires c = range_within (length c.args.names.now) c.args.ranges.now c.loop-i.i c.get.result.now c.deref.result.now c.requires.within c.get.ensures c.deref.ensures

pub returns-in_default : goal.returns-in_default
returns-in_default c =
    let low : c.loop-i.i < length c.args.leaves.now = omega (arith, c.loop-i-test.true, c.len-i-end.ensures, c.if-len-leaves.false, c.len.ensures) in
    let here : slice_get c.args.leaves.now c.loop-i.i ≡ Some c.index-leaves-i.result = slice_get-get_or c.args.leaves.now c.loop-i.i c.index-leaves-i.result low ∙ ap Some (sym c.index-leaves-i.is) in
    let leaf = some_leaf c.args.leaves.now c.loop-i.i c.index-leaves-i.result c.requires.leaves here in
    none_there c.args.names.now c.args.ranges.now c.args.leaves.now c.requires.leaves c.loop-i.i c.deref.result.now c.index-leaves-i.result leaf.0
    (objects_at c.args.ranges.now c.loop-i.i c.get.result.now c.deref.result.now c.get.ensures c.deref.ensures) here leaf.1
    (λ object has named. c.in_default.ensures.none object has (named ∙ sym (c.name_in.ensures leaf.0 leaf.1)))

pub loop-i-preserved : goal.loop-i-preserved
loop-i-preserved c =
    let low : c.loop-i.i < length c.args.leaves.now = omega (arith, c.loop-i-test.true, c.len-i-end.ensures, c.if-len-leaves.false, c.len.ensures) in
    let here : slice_get c.args.leaves.now c.loop-i.i ≡ Some c.index-leaves-i.result = slice_get-get_or c.args.leaves.now c.loop-i.i c.index-leaves-i.result low ∙ ap Some (sym c.index-leaves-i.is) in
    let leaf = some_leaf c.args.leaves.now c.loop-i.i c.index-leaves-i.result c.requires.leaves here in
    subst (λ objects. AreSoFar c.args.names.now c.args.ranges.now c.args.leaves.now (c.loop-i.i + 1) objects) (sym c.in_ok-push.ensures.ok)
    (one_more c.args.names.now c.args.ranges.now c.args.leaves.now c.requires.leaves c.loop-i.i c.deref.result.now c.index-leaves-i.result leaf.0 c.in-Some.object c.loop-i.objects
    (objects_at c.args.ranges.now c.loop-i.i c.get.result.now c.deref.result.now c.get.ensures c.deref.ensures) here leaf.1
    c.in-Some.ensures.found.0 (c.in-Some.ensures.found.1 ∙ c.name_in.ensures leaf.0 leaf.1) c.loop-i.invariant)

pub returns : goal.returns
returns c =
    let long = tests_long c.args.ranges.now in
    all_there c.args.names.now c.args.ranges.now c.args.leaves.now c.requires.leaves c.loop-i.i c.loop-i.objects
    (omega (arith, long, c.loop-i-test.false, c.len-i-end.ensures)) (omega (arith, c.if-len-leaves.false, c.len.ensures, c.loop-i-test.false, c.len-i-end.ensures)) c.loop-i.invariant
