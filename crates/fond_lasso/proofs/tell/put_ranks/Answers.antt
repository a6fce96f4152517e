use Rattle.std.proofs.Common.{◌≡◌, Some, arith, get_or, slice_get}
use Rattle.std.proofs.lemmas.Option.{slice_get-get_or}
use Rattle.fond_text.proofs.Adding.{adding_all, adding_more, adding_none}
use Rattle.fond_lasso.proofs.Listing.{levels_more, levels_over}
use Rattle.fond_lasso.proofs.tell.put_ranks.Goals as goal

pub loop-i-init : goal.loop-i-init
loop-i-init c = adding_all _ _

pub loop-i-preserved : goal.loop-i-preserved
loop-i-preserved c =
    let at = c.loop-i.i in
    let level = get_or c.args.levels.now at 0 in
    let there : slice_get c.args.levels.now at ≡ Some level = slice_get-get_or c.args.levels.now at 0 (omega (arith, c.loop-i-test.true, c.len-i-end.ensures.counted, c.requires)) in
    adding_more _ _ _ _ _ _ _ (levels_more c.args.t.now c.args.states.now c.args.levels.now at c.get.result.now level c.get.ensures there) c.loop-i.invariant c.put_rank.ensures

pub returns : goal.returns
returns c = adding_none _ _ _ _ (levels_over c.args.t.now c.args.states.now c.args.levels.now c.loop-i.i (omega (arith, c.loop-i-test.false, c.len-i-end.ensures.counted))) c.loop-i.invariant
