use Rattle.std.proofs.Common.{◌∙◌, arith}
use Rattle.fond_join.proofs.PairedOff.{none_kept_of_pair}
use Rattle.fond_join.proofs.barren.is_barren_with.Goals as goal

pub returns-then-branch-clause-barren : goal.returns-then-branch-clause-barren
returns-then-branch-clause-barren c = λ e.
    none_kept_of_pair c.args.facts.now.task.now c.args.schema.now c.loop-parameter.scope.env.items c.loop-parameter.parameter c.args.other (c.loop-parameter.invariant ∙ c.requires.open)
    (omega (arith, c.requires.within)) c.requires.within (c.in_ok-is_barren_pair.ensures.barren c.if-branch.true)
