-- Pairs that bar more than those before them.
use Rattle.std.proofs.Common.{◌≡◌, List, [], ◌∷◌, ◌++◌, length, refl, sym, subst}
use Rattle.std.specs.Prelude.{Contains}
use Rattle.std.proofs.lemmas.List.Elements.{Contains-append_right}
use Rattle.fond_task.specs.declared.task.Task.{Task}
use Rattle.fond_task.proofs.Lists.{Contains-here}
use Rattle.fond_task.specs.declared.rule.Pair.{Pair}
use Rattle.fond_draft.specs.Barring.{EachBarsMore}
use Rattle.fond_draft.proofs.Barring.{more_first}
use Rattle.fond_planner.specs.Planners.{BarsMoreThan}

-- with fresh pairs added, of all of which each bars more than those before it, the pairs bar more than before
pub more_than : (task : Task) (pairs fresh after : List Pair) → EachBarsMore task (pairs ++ fresh) → ¬ length fresh ≡ 0 → after ≡ pairs ++ fresh → BarsMoreThan task pairs after
more_than task pairs [] after each some moved = absurd (some refl)
more_than task pairs (first ∷ more) after each some moved = (
  first,
  subst (λ (all : List Pair). Contains all first) (sym moved) (Contains-append_right pairs (first ∷ more) first (Contains-here first more)),
  more_first task pairs more first each,
)
