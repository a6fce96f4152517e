use Rattle.fond_regress.proofs.Cubes.{takes_twice}
use Rattle.fond_regress.proofs.regress.regress_literal.Goals as goal

pub returns-then-not-explain_change : goal.returns-then-not-explain_change
returns-then-not-explain_change c =
    let source = c.args.source.now in
    let takes = takes_twice source c.args.out.now c.explain_change.new.out c.take_literal.new.out c.explain_change.ensures c.take_literal.ensures in
    takes_twice source c.args.out.now c.take_literal.new.out c.explain_no_change.new.out takes c.explain_no_change.ensures
