use Rattle.std.proofs.Common.{◌≡◌}
use Rattle.fond_task.specs.declared.form.Kleene.TheVariants.{No}
use Rattle.fond_task.specs.Values.{value}
use Rattle.fond_layers.proofs.Tried.{AllBefore}
use Rattle.fond_layers.proofs.sure.goal_spot.Given as goal

abbrev pub invariant-loop-number : goal.invariant-loop-number
invariant-loop-number l = AllBefore l.cubes (λ cube. value cube l.t.goal ≡ No) l.number
