use Rattle.std.proofs.lemmas.List.{at_drop_more, at_drop_all}
use Rattle.std.specs.List.{flat_map}
use Rattle.fond_text.proofs.Adding.{adding_all, adding_more, adding_none, adds_same}
use Rattle.fond_lasso.specs.Listing.{numbered_text}
use Rattle.fond_lasso.proofs.Listing.{numbered_is}
use Rattle.fond_lasso.proofs.tell.put_listed.Goals as goal

pub loop-number-init : goal.loop-number-init
loop-number-init c = adding_all _ _

pub loop-number-preserved : goal.loop-number-preserved
loop-number-preserved c =
    adding_more _ _ _ _ _ _ _ (at_drop_more (flat_map (numbered_text c.args.t.now c.args.states.now)) c.args.numbers.now c.loop-number.number-index 0 c.loop-number-test.true) c.loop-number.invariant
    (adds_same _ _ _ _ (numbered_is c.args.t.now c.args.states.now _ c.get.result.now c.get.ensures) c.put_state.ensures)

pub returns : goal.returns
returns c = adding_none _ _ _ _ (at_drop_all (flat_map (numbered_text c.args.t.now c.args.states.now)) c.args.numbers.now c.loop-number.number-index c.loop-number-test.false) c.loop-number.invariant
