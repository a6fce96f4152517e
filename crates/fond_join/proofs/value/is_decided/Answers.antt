use Rattle.std.proofs.Common.{rules, ◌≡◌}
use Rattle.fond_join.proofs.Joined.{decided_stays}
use Rattle.fond_join.proofs.value.is_decided.Goals as goal

pub returns : goal.returns
returns c = λ e values. let same : c.args.value ≡ c.neutral.result = search rules in rw (same, c.neutral.ensures, c.dual.ensures) (decided_stays c.args.junction values)
