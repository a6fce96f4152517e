use Rattle.std.proofs.Common.{refl}
use Rattle.fond_cert.proofs.Refusals.{handed_on}
use Rattle.fond_cert.proofs.reading.read_value.Goals as goal

pub read_act-requires : goal.read_act-requires
read_act-requires c = rw c.in-Action.is at c.requires

pub read_short-requires : goal.read_short-requires
read_short-requires c = rw c.in-Short.is at c.requires

pub read_long-requires : goal.read_long-requires
read_long-requires c = rw c.in-Long.is at c.requires

pub read_target-requires : goal.read_target-requires
read_target-requires c = rw c.in-Target.is at c.requires

pub read_item_numbers-requires : goal.read_item_numbers-requires
read_item_numbers-requires c = rw c.in-Shorts.is at c.requires

pub read_targets-requires : goal.read_targets-requires
read_targets-requires c = rw c.in-Targets.is at c.requires

pub read_cube-requires : goal.read_cube-requires
read_cube-requires c = rw c.in-Literals.is at c.requires

pub returns-in_err-read_short-in-Short-clause-wrong : goal.returns-in_err-read_short-in-Short-clause-wrong
returns-in_err-read_short-in-Short-clause-wrong c = rw c.in-Short.is (handed_on _ _ _ c.from_residual-in_err-read_short-in-Short.ensures.1 (c.in_err-read_short-in-Short.ensures.wrong c.args.index.now))

pub returns-in_err-read_long-in-Long-clause-wrong : goal.returns-in_err-read_long-in-Long-clause-wrong
returns-in_err-read_long-in-Long-clause-wrong c = rw c.in-Long.is (handed_on _ _ _ c.from_residual-in_err-read_long-in-Long.ensures.1 (c.in_err-read_long-in-Long.ensures.wrong c.args.index.now))

pub returns-in_err-read_target-in-Target-clause-wrong : goal.returns-in_err-read_target-in-Target-clause-wrong
returns-in_err-read_target-in-Target-clause-wrong c = rw c.in-Target.is (handed_on _ _ _ c.from_residual-in_err-read_target-in-Target.ensures.1 (c.in_err-read_target-in-Target.ensures.wrong c.args.index.now))

pub returns-in_err-values-in-Shorts-clause-wrong : goal.returns-in_err-values-in-Shorts-clause-wrong
returns-in_err-values-in-Shorts-clause-wrong c = rw c.in-Shorts.is (handed_on _ _ _ c.from_residual-in_err-values-in-Shorts.ensures.1 (c.in_err-values-in-Shorts.ensures.wrong c.args.index.now))

pub returns-in_err-values-in-Targets-clause-wrong : goal.returns-in_err-values-in-Targets-clause-wrong
returns-in_err-values-in-Targets-clause-wrong c = rw c.in-Targets.is (handed_on _ _ _ c.from_residual-in_err-values-in-Targets.ensures.1 (c.in_err-values-in-Targets.ensures.wrong c.args.index.now))

pub returns-in_ok-values-in-Action-clause-read : goal.returns-in_ok-values-in-Action-clause-read
returns-in_ok-values-in-Action-clause-read c = rw c.in-Action.is (c.in_ok-values-in-Action.field-0, c.in_ok-values-in-Action.ensures.read, refl)

pub returns-in_ok-push-in-Short-clause-read : goal.returns-in_ok-push-in-Short-clause-read
returns-in_ok-push-in-Short-clause-read c = rw (c.in-Short.is, c.in_ok-push-in-Short.ensures.ok) (c.in_ok-read_short-in-Short.field-0, c.in_ok-read_short-in-Short.ensures.read c.args.index.now, refl)

pub returns-in_ok-push-in-Long-clause-read : goal.returns-in_ok-push-in-Long-clause-read
returns-in_ok-push-in-Long-clause-read c = rw (c.in-Long.is, c.in_ok-push-in-Long.ensures.ok) (c.in_ok-read_long-in-Long.field-0, c.in_ok-read_long-in-Long.ensures.read c.args.index.now, refl)

pub returns-in_ok-push-in-Target-clause-read : goal.returns-in_ok-push-in-Target-clause-read
returns-in_ok-push-in-Target-clause-read c = rw (c.in-Target.is, c.in_ok-push-in-Target.ensures.ok) (c.in_ok-read_target-in-Target.field-0, c.in_ok-read_target-in-Target.ensures.read c.args.index.now, refl)

pub returns-in_ok-values-in-Shorts-clause-read : goal.returns-in_ok-values-in-Shorts-clause-read
returns-in_ok-values-in-Shorts-clause-read c = rw c.in-Shorts.is (c.in_ok-values-in-Shorts.field-0, c.in_ok-values-in-Shorts.ensures.read c.args.index.now, refl)

pub returns-in_ok-values-in-Targets-clause-read : goal.returns-in_ok-values-in-Targets-clause-read
returns-in_ok-values-in-Targets-clause-read c = rw c.in-Targets.is (c.in_ok-values-in-Targets.field-0, c.in_ok-values-in-Targets.ensures.read c.args.index.now, refl)

pub returns-in_ok-read_cube-in-Literals-clause-read : goal.returns-in_ok-read_cube-in-Literals-clause-read
returns-in_ok-read_cube-in-Literals-clause-read c = rw c.in-Literals.is (c.in_ok-read_cube-in-Literals.field-0, c.in_ok-read_cube-in-Literals.ensures.read, refl)
