-- Pairs of which each bars more than those before it.
use Rattle.std.specs.Prelude.{◌≡◌, ℕ, List, Bool, Some, slice_get, take}
use Rattle.fond_state.specs.Cubes.{LiesIn}
use Rattle.fond_task.specs.declared.task.Task.{Task}
use Rattle.fond_task.specs.declared.rule.Pair.{Pair}
use Rattle.fond_explicit.specs.Answers.{IsReachable}
use Rattle.fond_regress.specs.Barred.{IsBarred}

-- a pair bars more than others: there is a reachable state in which its condition holds, and in which none of the others bars its
-- action
pub record BarsMore (task : Task) (others : List Pair) (pair : Pair) : Type 0 where
  pub state : List Bool
  pub reachable : IsReachable task task.init state
  pub lies : LiesIn state pair.cond
  pub free : ¬ IsBarred others pair.act state

-- each pair bars more than the pairs before it
abbrev pub EachBarsMore : Task → List Pair → Type 0
EachBarsMore task pairs = (number : ℕ) (pair : Pair) → slice_get pairs number ≡ Some pair → BarsMore task (take number pairs) pair
