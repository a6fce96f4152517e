use Rattle.std.proofs.Common.{◌+◌, vec_len, arith}
use Rattle.fond_fixpoint.proofs.Searched.{search_then, round_above}
use Rattle.fond_fixpoint.proofs.rank.rank_all.Goals as goal

pub winners-preserved : goal.winners-preserved
winners-preserved c =
    let moves = c.args.moves.now in
    let first = c.args.fates.now in
    let before = c.winners.invariant.before in
    let ranked = search_then moves first c.winners.fates c.rank.new.fates before (vec_len c.winners.queue) (vec_len c.rank.new.queue) c.winners.invariant.search c.in_ok-rank.ensures.search in
    record {
      needs = c.winners.invariant.needs;
      before = before;
      search = search_then moves first c.rank.new.fates c.spread-in-Some.new.fates before (vec_len c.rank.new.queue) (vec_len c.spread-in-Some.new.queue) ranked c.in_ok-spread-2.ensures;
    }

pub returns-clause-keeps : goal.returns-clause-keeps
returns-clause-keeps c = λ goals round now.
    let before = c.winners.invariant.before in
    (vec_len c.winners.queue + 1, c.winners.invariant.search.keeps goals round (round_above goals c.args.moves.now round 1 (before + 1) c.args.fates.now (omega arith) now))
