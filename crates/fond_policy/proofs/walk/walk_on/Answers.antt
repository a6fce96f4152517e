use Rattle.std.proofs.Common.{◌≡◌, ◌∙◌, ◌+◌, ◌≤◌, List, Bool, Some, length, slice_get, sym, ap, subst, arith}
use Rattle.std.proofs.lemmas.Option.{slice_get_within}
use Rattle.fond_task.specs.Policies.{selected}
use Rattle.fond_task.proofs.Lists.{Contains_numbered}
use Rattle.fond_task.proofs.Reached.{reached_long}
use Rattle.fond_policy.specs.Walks.{IsUnruledAmong, IsWalk}
use Rattle.fond_policy.proofs.Walking.{grown_keeps, open_below, open_more, open_one, walk_all, walk_begun, walk_more}
use Rattle.fond_policy.proofs.walk.walk_on.Goals as goal

pub copy_from-requires : goal.copy_from-requires
copy_from-requires c =
    let reached = c.loop-at.invariant.walk.reached c.get.result.now (Contains_numbered c.loop-at.states c.loop-at.at c.get.result.now c.get.ensures) in
    c.loop-at.invariant.long ∙ sym (reached_long c.args.t.now (selected c.args.rules.now) c.get.result.now reached)

pub visit-requires-clause-long : goal.visit-requires-clause-long
visit-requires-clause-long c =
    let reached = c.loop-at.invariant.walk.reached c.get.result.now (Contains_numbered c.loop-at.states c.loop-at.at c.get.result.now c.get.ensures) in
    ap length c.copy_from.ensures ∙ reached_long c.args.t.now (selected c.args.rules.now) c.get.result.now reached

pub visit-requires-clause-of : goal.visit-requires-clause-of
visit-requires-clause-of c = c.loop-at.invariant.selector

pub copy_numbered-requires : goal.copy_numbered-requires
copy_numbered-requires c = open_below c.args.t.now c.args.rules.now c.loop-at.states c.loop-at.at c.loop-at.unruled c.loop-at.invariant.unruled

pub loop-at-init : goal.loop-at-init
loop-at-init c = record {
  selector = c.new-selector.ensures;
  long = c.requires.long;
  next_long = c.requires.next_long;
  done = omega arith;
  walk = walk_begun c.args.t.now c.args.rules.now c.args.states.now c.requires.first;
  unruled = λ number state small. absurd (omega (arith, small));
}

pub loop-at-preserved : goal.loop-at-preserved
loop-at-preserved c =
    let task = c.args.t.now in
    let rules = c.args.rules.now in
    let old = c.loop-at.states in
    let new = c.visit.new.states in
    let at = c.loop-at.at in
    let state = c.copy_from.new.self in
    let walk = c.loop-at.invariant.walk in
    let there : slice_get old at ≡ Some state = subst (λ (s : List Bool). slice_get old at ≡ Some s) (sym c.copy_from.ensures) c.get.ensures in
    let visits = c.in_ok-ruled.ensures.visits in
    let reached = walk.reached state (Contains_numbered old at state there) in
    let kept = grown_keeps _ old new visits.grows at state there in
    record {
      selector = c.in_ok-ruled.ensures.of;
      long = reached_long task (selected rules) state reached;
      next_long = c.in_ok-ruled.ensures.same_length ∙ c.loop-at.invariant.next_long;
      done = (let within = slice_get_within new at state kept in omega (arith, within));
      walk = walk_more task rules old new at state c.in_ok-ruled.ruled there visits walk;
      unruled = subst (IsUnruledAmong task rules new (at + 1)) (sym c.first_of-unruled.ensures) (open_more task rules old new at state c.in_ok-ruled.ruled c.loop-at.unruled there visits walk c.loop-at.invariant.unruled);
    }

pub returns-clause-whole : goal.returns-clause-whole
returns-clause-whole c = λ all.
    let end : c.loop-at.at ≡ length c.loop-at.states = omega (arith, c.loop-at-test.false, c.len.ensures.counted, c.loop-at.invariant.done) in
    subst (IsWalk c.args.t.now c.args.rules.now c.loop-at.states) end c.loop-at.invariant.walk

pub returns-clause-walked : goal.returns-clause-walked
returns-clause-walked c =
    let task = c.args.t.now in
    let rules = c.args.rules.now in
    let states = c.loop-at.states in
    let end : length states ≤ c.loop-at.at = omega (arith, c.loop-at-test.false, c.len.ensures.counted) in
    let walk = c.loop-at.invariant.walk in (
      record {
        states = states;
        once = c.len.ensures.distinct;
        reached = walk.reached;
        all = walk_all task rules states c.loop-at.at end walk;
        counted = sym c.len-3.ensures.counted;
      },
      omega (arith, c.if-from-bound-2.false, c.from-2.ensures, c.len-2.ensures.counted, c.len-3.ensures.counted),
      open_one task rules states c.loop-at.at c.loop-at.unruled c.in_ok-copy_numbered.field-0 end walk c.loop-at.invariant.unruled c.in_ok-copy_numbered.ensures,
    )

pub returns-then-from-bound-clause-walked : goal.returns-then-from-bound-clause-walked
returns-then-from-bound-clause-walked c = record {
  states = c.loop-at.states;
  once = c.len.ensures.distinct;
  reached = c.loop-at.invariant.walk.reached;
  longer = omega (arith, c.if-from-bound.true, c.from.ensures, c.len-in-loop-at.ensures.counted);
}

pub returns-then-from-bound-2-clause-walked : goal.returns-then-from-bound-2-clause-walked
returns-then-from-bound-2-clause-walked c = record {
  states = c.loop-at.states;
  once = c.len.ensures.distinct;
  reached = c.loop-at.invariant.walk.reached;
  longer = omega (arith, c.if-from-bound-2.true, c.from-2.ensures, c.len-2.ensures.counted);
}
