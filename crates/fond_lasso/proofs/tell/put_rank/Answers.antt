use Rattle.fond_text.proofs.Adding.{adds_nothing, adds_same, adds_then}
use Rattle.fond_lasso.proofs.Listing.{level_is, level_none}
use Rattle.fond_lasso.proofs.tell.put_rank.Goals as goal

pub returns-then-level-le1 : goal.returns-then-level-le1
returns-then-level-le1 c = adds_same _ _ _ _ (level_none c.args.t.now c.args.state.now c.args.level c.if-level-le1.true) (adds_nothing c.args.text.now)

pub returns : goal.returns
returns c =
    let three = adds_then _ _ _ _ _ (adds_then _ _ _ _ _ c.add.ensures c.add_number.ensures) c.add-2.ensures in
    adds_same _ _ _ _ (level_is c.args.t.now c.args.state.now c.args.level c.if-level-le1.false) (adds_then _ _ _ _ _ three c.put_state.ensures)
