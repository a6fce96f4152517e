use Rattle.std.proofs.Common.{[], ◌∷◌, ◌++◌, ℕ, List, sym, ap, ◌∙◌, subst, append_assoc, append-nil}
use Rattle.std.specs.Prelude.{Contains}
use Rattle.fond_games.specs.Walks.{stay, leave}
use Rattle.fond_games.proofs.Walking.{join}
use Rattle.fond_games.proofs.hops.walk_down.Goals as goal

pub loop-node-init : goal.loop-node-init
loop-node-init c = record { reached = c.requires.reached; more = []; given = sym (append-nil c.args.walk.now.items); walked = stay c.args.from }

pub loop-node-preserved : goal.loop-node-preserved
loop-node-preserved c =
    let node = c.loop-node.node in
    let next = c.in-Some.next in
    let before = c.loop-node.invariant in
    let found = c.in-Some.ensures.found in
    let edge = subst (λ (xs : List ℕ). Contains xs next) c.successors.ensures found.0 in
    record {
      reached = found.1.0;
      more = before.more ++ node ∷ [];
      given = c.in_ok-push-in-Some.ensures.items ∙ ap (λ (xs : List ℕ). xs ++ node ∷ []) before.given ∙ append_assoc c.args.walk.now.items before.more (node ∷ []);
      walked = join c.args.from before.more node (node ∷ []) next before.walked (leave node next next [] edge (stay next));
    }
