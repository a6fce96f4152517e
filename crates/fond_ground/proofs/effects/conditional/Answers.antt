use Rattle.std.proofs.Common.{sym, subst}
use Rattle.fond_oneof.specs.declared.effect.GroundEffect.{GroundEffect}
use Rattle.fond_ground.specs.Effects.{HasOutcomes}
use Rattle.fond_ground.proofs.Grounded.{has-When, has-always}
use Rattle.fond_ground.proofs.effects.conditional.Goals as goal

pub returns-then-is_always : goal.returns-then-is_always
returns-then-is_always c = λ task env condition lists stands within has. has-always task env condition c.args.form stands lists c.args.effect (c.is_always.ensures c.if-is_always.true) has

pub returns : goal.returns
returns c = λ task env condition lists stands within has.
    has-When task env condition c.args.form stands lists c.in_ok-new.field-0 within (subst (λ (one : GroundEffect). HasOutcomes task lists one) (sym c.in_ok-new.ensures.ok) has)
