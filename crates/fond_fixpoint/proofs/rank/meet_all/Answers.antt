use Rattle.std.proofs.Common.{vec_len}
use Rattle.fond_fixpoint.proofs.Searched.{search_none, search_then}
use Rattle.fond_fixpoint.proofs.rank.meet_all.Goals as goal

pub loop-number-init : goal.loop-number-init
loop-number-init c = search_none c.args.moves.now c.args.fates.now (vec_len c.args.queue.now)

pub loop-number-preserved : goal.loop-number-preserved
loop-number-preserved c = search_then c.args.moves.now c.args.fates.now c.loop-number.fates c.meet.new.fates (vec_len c.args.queue.now) (vec_len c.loop-number.queue) (vec_len c.meet.new.queue) c.loop-number.invariant c.in_ok-meet.ensures
