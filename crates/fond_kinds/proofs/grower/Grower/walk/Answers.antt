use Rattle.std.proofs.Common.{◌≡◌, length, sym, ◌∙◌, subst, arith}
use Rattle.std.specs.Prelude.{◌<◌}
use Rattle.fond_kinds.specs.Growth.{IsWalking}
use Rattle.fond_kinds.proofs.Walk.{starts, goes_on, met_now, still_met}
use Rattle.fond_kinds.proofs.grower.Grower.walk.Goals as goal

pub loop-next-init : goal.loop-next-init
loop-next-init c =
    record {
      walking = subst (λ z. IsWalking c.meet.new.self z c.args.start) (sym c.requires.empty) (starts c.args.self.now c.meet.new.self c.args.start c.meet.ensures c.requires.resting.growing c.requires.there c.requires.new c.requires.resting);
      start = met_now c.args.self.now c.meet.new.self c.args.start c.meet.ensures c.requires.resting.growing c.requires.there c.requires.new;
      kept = c.meet.ensures.parents;
      done = c.meet.ensures.done;
    }

pub loop-next-preserved : goal.loop-next-preserved
loop-next-preserved c =
    let (known, unmet, within) = c.in-Some.ensures.unmet in
    let e : length c.loop-next.self.seen.items ≡ length c.loop-next.self.parents.now = c.loop-next.invariant.walking.growing.seen in
    let there : c.in-Some.next < length c.loop-next.self.parents.now = omega arith in
    record {
      walking = subst (λ z. IsWalking c.meet-in-Some.new.self z c.in-Some.next) (sym c.in_ok-push.ensures.items)
          (goes_on c.loop-next.self c.meet-in-Some.new.self c.in-Some.next c.meet-in-Some.ensures c.loop-next.invariant.walking.growing there unmet c.loop-next.path.items c.loop-next.at c.loop-next.invariant.walking known);
      start = still_met c.loop-next.self c.meet-in-Some.new.self c.in-Some.next c.meet-in-Some.ensures c.loop-next.invariant.walking.growing there unmet c.args.start c.loop-next.invariant.start;
      kept = c.meet-in-Some.ensures.parents ∙ c.loop-next.invariant.kept;
      done = c.meet-in-Some.ensures.done ∙ c.loop-next.invariant.done;
    }
