use Rattle.std.proofs.Common.{◌≡◌, ℕ, List, [], ◌∷◌, ◌++◌, subst, length, take, get_or, arith}
use Rattle.std.specs.Prelude.{Contains}
use Rattle.fond_games.specs.Visits.{VisitsSome}
use Rattle.fond_games.specs.Walks.{Follows}
use Rattle.fond_games.proofs.Touring.{visit_none, visit_then, visit_all, visit_skip, edge_of}
use Rattle.fond_games.proofs.tour.visit.Goals as goal

pub loop-after-init : goal.loop-after-init
loop-after-init c = record { visits = visit_none c.args.graph.now c.args.node c.args.from c.args.walk.now.items; on = c.requires.reached }

pub walk_down-requires-clause-reached : goal.walk_down-requires-clause-reached
walk_down-requires-clause-reached c = c.requires.table.reaches c.loop-after.at c.loop-after.invariant.on

pub loop-after-preserved : goal.loop-after-preserved
loop-after-preserved c =
    let graph = c.args.graph.now in
    let node = c.args.node in
    let items = c.successors-after-items.result.now in
    let i = c.loop-after.after-index in
    let before = c.loop-after.invariant in
    let edge = edge_of graph node items i c.successors-after-items.ensures c.loop-after-test.true in
    record {
      visits = visit_then graph node c.args.from items c.args.walk.now.items i c.loop-after.walk.items c.loop-after.at before.visits c.walk_down.new.walk.items c.push.new.self.items c.in_ok-walk_down.ensures c.in_ok-push.ensures.items edge;
      on = c.requires.back (get_or items i 0) edge;
    }

pub returns : goal.returns
returns c =
    let items = c.successors-after-items.result.now in
    let same : c.loop-after.after-index ≡ length items = omega arith in
    visit_all c.args.graph.now c.args.node c.args.from items c.args.walk.now.items c.loop-after.walk.items c.loop-after.at
    (subst (λ n. VisitsSome c.args.graph.now c.args.node (λ after. Contains (take n items) after) c.args.from c.args.walk.now.items c.loop-after.walk.items c.loop-after.at) same c.loop-after.invariant.visits) c.successors-after-items.ensures

pub loop-after-preserved-then-follows : goal.loop-after-preserved-then-follows
loop-after-preserved-then-follows c =
    let items = c.successors-after-items.result.now in
    let i = c.loop-after.after-index in
    let before = c.loop-after.invariant in
    let P : List ℕ → Type 0 = λ xs. Follows (xs ++ c.loop-after.at ∷ []) c.args.node (get_or items i 0) in
    record { visits = visit_skip c.args.graph.now c.args.node c.args.from items c.args.walk.now.items i c.loop-after.walk.items c.loop-after.at before.visits (subst P c.deref.ensures.value (c.follows.ensures c.if-follows.true)); on = before.on }
