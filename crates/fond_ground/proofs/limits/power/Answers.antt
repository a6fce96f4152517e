use Rattle.std.proofs.Common.{◌≡◌, ◌∙◌, ◌^◌, ap, min, arith}
use Rattle.fond_ground.proofs.Powers.{nine_factors}
use Rattle.fond_ground.proofs.limits.power.Goals as goal

pub returns : goal.returns
returns c =
    let end = c.min-factor-end.ensures in
    let past = c.loop-factor-test.false in
    let within = c.loop-factor.auto._factor-end in
    let factors : c.loop-factor._factor ≡ min c.args.exponent 9 = omega (arith, end, past, within) in
    c.loop-factor.invariant ∙ ap (λ n. min (c.args.base ^ n) 257) factors ∙ nine_factors c.args.base c.args.exponent
