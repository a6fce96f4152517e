use Rattle.std.proofs.Common.{◌∙◌, sym}
use Rattle.fond_state.proofs.Tested.{lies_in-Decides}
use Rattle.fond_regress.proofs.barred.bars.Goals as goal

pub returns : goal.returns
returns c =
    let decides = lies_in-Decides c.args.state.now c.args.pair.now.cond in
    (λ is. (c.if-pair-act.false, decides.0 (sym c.holds.ensures ∙ is)), λ bars. c.holds.ensures ∙ decides.1 bars.1)
