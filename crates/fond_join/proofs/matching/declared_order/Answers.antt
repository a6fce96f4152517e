use Rattle.std.proofs.Common.{◌∷◌, [], ◌++◌, sym, ap, ◌∙◌, arith}
use Rattle.fond_join.proofs.Declared.{numbers_more}
use Rattle.fond_join.proofs.matching.declared_order.Goals as goal

pub loop-parameter-preserved : goal.loop-parameter-preserved
loop-parameter-preserved c = c.in_ok-push.ensures.items ∙ ap (λ all. all ++ c.loop-parameter.parameter ∷ []) c.loop-parameter.invariant ∙ sym (numbers_more 0 c.loop-parameter.parameter c.loop-parameter.parameter (omega arith))
