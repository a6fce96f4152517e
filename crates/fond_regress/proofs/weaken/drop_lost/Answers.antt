use Rattle.std.proofs.Common.{◌≡◌, Bool, List, Option, true, sym, subst}
use Rattle.fond_regress.specs.Weaker.{IsWeaker}
use Rattle.fond_regress.proofs.Lost.{weaker_without}
use Rattle.fond_regress.proofs.weaken.drop_lost.Goals as goal

pub returns-clause-weaker : goal.returns-clause-weaker
returns-clause-weaker c =
    let cube = c.args.cube.now in
    subst (λ new. IsWeaker cube new true) (sym c.drop_literal.ensures) (weaker_without cube c.args.atom c.in-Some.sign (sym c.in-Some.ensures))
