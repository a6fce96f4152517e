use Rattle.std.proofs.Common.{◌∙◌, sym, refl, arith}
use Rattle.fond_ground.proofs.Filed.{agrees_from, follows_from}
use Rattle.fond_ground.proofs.patterns.agrees.Goals as goal

pub returns-then-not-follows : goal.returns-then-not-follows
returns-then-not-follows c = (λ never. absurd cc, λ agree. sym c.if-not-follows.true ∙ c.follows.ensures.1 (follows_from c.args.pattern.now c.args.objects.now agree c.loop-i.i))

pub returns : goal.returns
returns c = (λ e. agrees_from c.args.pattern.now c.args.objects.now (omega arith) (λ at low. c.loop-i.invariant at (omega (arith, low))), λ agree. refl)
