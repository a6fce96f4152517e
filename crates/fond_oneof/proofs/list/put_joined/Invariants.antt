use Rattle.std.proofs.Common.{◌≡◌, ◌++◌, map, drop}
use Rattle.fond_oneof.specs.Shown.{all_shown, shown}
use Rattle.fond_oneof.proofs.list.put_joined.Given as goal

abbrev pub invariant-loop-other : goal.invariant-loop-other
invariant-loop-other l = all_shown l.all.items ++ map (λ one. map shown l.outcome ++ one) (all_shown (drop l.other-index l.more))
    ≡ all_shown l.initial.all.items ++ map (λ one. map shown l.outcome ++ one) (all_shown l.more)
