use Rattle.std.proofs.Common.{◌≡◌, true, take}
use Rattle.std.specs.List.{list_all}
use Rattle.fond_ground.specs.Limits.{has_few_outcomes}
use Rattle.fond_ground.proofs.limits.few_outcomes.Given as goal

-- the schemas so far have few outcomes
abbrev pub invariant-loop-i : goal.invariant-loop-i
invariant-loop-i l = list_all (has_few_outcomes l.task) (take l.i l.task.schemas) ≡ true
