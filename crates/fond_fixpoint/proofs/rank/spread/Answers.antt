use Rattle.std.proofs.Common.{vec_len, arith}
use Rattle.fond_fixpoint.proofs.Searched.{search_none, search_then}
use Rattle.fond_fixpoint.proofs.rank.spread.Goals as goal

pub loop-head-init : goal.loop-head-init
loop-head-init c = record { search = search_none c.args.moves.now c.args.fates.now (vec_len c.args.queue.now); within = c.requires.from }

pub loop-head-preserved : goal.loop-head-preserved
loop-head-preserved c = record {
  search = search_then c.args.moves.now c.args.fates.now c.loop-head.fates c.meet_all.new.fates (vec_len c.args.queue.now) (vec_len c.loop-head.queue) (vec_len c.meet_all.new.queue) c.loop-head.invariant.search c.in_ok-meet_all.ensures;
  within = omega (arith, c.in_ok-meet_all.ensures.longer);
}

pub loop-head-smaller : goal.loop-head-smaller
loop-head-smaller c = omega (arith, c.in_ok-meet_all.ensures.counted, c.in_ok-meet_all.ensures.longer)
