use Rattle.std.proofs.Common.{arith, ap, length, length-append, [], ◌∷◌}
use Rattle.std.proofs.lemmas.Option.{slice_get_within}
use Rattle.fond_explicit.proofs.Runs.{goals_more}
use Rattle.fond_explicit.proofs.decide.goals.Goals as goal

pub loop-node-preserved : goal.loop-node-preserved
loop-node-preserved c =
    let before = c.loop-node.invariant in
    record {
      long = omega (arith, ap length c.in_ok-push.ensures.items, length-append c.loop-node.goals.items (c.is_won.result ∷ []), before.long);
      are = goals_more c.args.t.now c.args.space.now.states c.args.space.now.opened c.args.hopeful c.loop-node.node c.loop-node.goals.items c.push.new.self.items c.is_won.result before.long before.are c.is_won.ensures c.in_ok-push.ensures.items;
    }

pub returns-clause-goals : goal.returns-clause-goals
returns-clause-goals c = λ node state is. c.loop-node.invariant.are node state (omega (arith, slice_get_within c.args.space.now.states node state is, c.loop-node-test.false, c.len-node-end.ensures.counted)) is
