use Rattle.std.proofs.Common.{◌∙◌, map, ap, arith}
use Rattle.fond_oneof.specs.Shown.{all_shown, shown}
use Rattle.fond_oneof.proofs.Ended.{shown_by_all}
use Rattle.fond_oneof.proofs.Lists.{written_back}
use Rattle.fond_oneof.proofs.list.extended.Goals as goal

pub returns : goal.returns
returns c =
    let inv = c.loop-outcome.invariant in
    ap all_shown (written_back _ c.loop-outcome.outcome-items c.args.all.items inv.same_length (omega (arith, c.args.all.ok)))
    ∙ shown_by_all (map shown c.args.more.now) c.args.all.items c.loop-outcome.outcome-items inv.same_length (λ k h. inv.done k (omega arith))
