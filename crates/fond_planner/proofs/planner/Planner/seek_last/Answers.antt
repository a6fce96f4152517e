use Rattle.std.proofs.Common.{[], ◌∷◌, subst}
use Rattle.fond_planner.proofs.Kept.{reachable_on}
use Rattle.fond_planner.proofs.Waiting.{first_reachable, last_reachable, pushed_reachable}
use Rattle.fond_planner.specs.Seeks.{IsSought}
use Rattle.fond_planner.proofs.planner.Planner.seek_last.Goals as goal

pub seek_one-requires-clause-reachable : goal.seek_one-requires-clause-reachable
seek_one-requires-clause-reachable g c = last_reachable c.args.self.now.task.now c.args.waiting.now.items c.pop.new.self.items c.in-Some.state c.in-Some.ensures.items c.requires.reached

pub returns-in-Known-clause-reached : goal.returns-in-Known-clause-reached
returns-in-Known-clause-reached g c =
    reachable_on c.in_ok-seek_one.ensures.keeps c.pop.new.self.items
    (first_reachable c.args.self.now.task.now c.args.waiting.now.items c.pop.new.self.items (c.in-Some.state ∷ []) c.in-Some.ensures.items c.requires.reached)

pub returns-in-GaveUp-clause-reached : goal.returns-in-GaveUp-clause-reached
returns-in-GaveUp-clause-reached g c =
    reachable_on c.in_ok-seek_one.ensures.keeps c.pop.new.self.items
    (first_reachable c.args.self.now.task.now c.args.waiting.now.items c.pop.new.self.items (c.in-Some.state ∷ []) c.in-Some.ensures.items c.requires.reached)

pub returns-in_ok-push-in-After-2-clause-reached : goal.returns-in_ok-push-in-After-2-clause-reached
returns-in_ok-push-in-After-2-clause-reached g c =
    let task = c.args.self.now.task.now in
    let others = first_reachable task c.args.waiting.now.items c.pop.new.self.items (c.in-Some.state ∷ []) c.in-Some.ensures.items c.requires.reached in
    let state = last_reachable task c.args.waiting.now.items c.pop.new.self.items c.in-Some.state c.in-Some.ensures.items c.requires.reached in
    let both = pushed_reachable task c.push.new.self.items c.pop.new.self.items c.in-Some.state c.in_ok-push-in-After.ensures.items others state in
    reachable_on c.in_ok-seek_one.ensures.keeps c.push-in-After.new.self.items
    (pushed_reachable task c.push-in-After.new.self.items c.push.new.self.items c.in-After.next c.in_ok-push-in-After-2.ensures.items both (subst (IsSought task) c.in-After.is c.in_ok-seek_one.ensures.sought))
