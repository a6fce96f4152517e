use Rattle.std.proofs.Common.{◌≡◌, ◌^◌, min}
use Rattle.fond_ground.proofs.limits.power.Given as goal

abbrev pub invariant-loop-factor : goal.invariant-loop-factor
invariant-loop-factor l = l.all ≡ min (l.base ^ l._factor) 257
