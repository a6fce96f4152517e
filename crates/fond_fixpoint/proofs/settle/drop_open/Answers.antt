use Rattle.std.proofs.Common.{get_or, set, ap, ◌∙◌}
use Rattle.std.proofs.Common.{add-one}
use Rattle.fond_fixpoint.specs.declared.fate.Fate.TheVariants.{Open}
use Rattle.fond_fixpoint.specs.Rounds.{dropped}
use Rattle.fond_fixpoint.proofs.Mapped.{set_mapped}
use Rattle.fond_fixpoint.proofs.settle.drop_open.Goals as goal

pub loop-fate-preserved : goal.loop-fate-preserved
loop-fate-preserved c =
    let round = c.args.round in
    let fates = c.args.fates.now in
    let i = c.loop-fate.fate-index in
    ap (set c.loop-fate.fates i) c.dropped.ensures ∙ ap (λ xs. set xs i (dropped round (get_or xs i Open))) c.loop-fate.invariant ∙ rw add-one (set_mapped (dropped round) fates i Open c.loop-fate-test.true)
