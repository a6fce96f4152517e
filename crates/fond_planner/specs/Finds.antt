-- What is found out about a state, and how a round ends, while a policy is made.
use Rattle.std.specs.Prelude.{ℕ, List, Bool, ⊤}
use Rattle.fond_task.specs.declared.task.Task.{Task}
use Rattle.fond_task.specs.Certificates.{LiesInLayers}
use Rattle.fond_planner.specs.Decisions.{IsPast}
use Rattle.fond_draft.specs.Targets.{HasRule}
use Rattle.fond_draft.specs.declared.draft.Draft.{Draft}
use Rattle.fond_planner.specs.declared.find.Found.{Found}
use Rattle.fond_planner.specs.declared.find.Found.TheVariants.{Ruled, Dead}
use Rattle.fond_planner.specs.declared.walk.Begun.{Begun}
use Rattle.fond_planner.specs.declared.walk.Begun.TheVariants.{Ruled as Begins, Lost as IsLost, Past as IsOver}
use Rattle.fond_planner.specs.declared.walk.Round.{Round}
use Rattle.fond_planner.specs.declared.walk.Round.TheVariants.{Walked, Lost, Past}

-- what is found out about a state is right: a rule holds in it, or it lies in a layer
abbrev pub IsFound : Draft → List Bool → Found → Type 0
IsFound draft state Ruled = HasRule draft.rules state
IsFound draft state Dead = LiesInLayers state draft.layers

-- what is found out about the initial state is right: it lies in a layer if it is lost, and more states are reachable than the
-- budget if that is passed; of one with a rule nothing is said
abbrev pub IsBegun : Task → ℕ → Draft → Begun → Type 0
IsBegun task budget draft Begins = ⊤
IsBegun task budget draft IsLost = LiesInLayers task.init draft.layers
IsBegun task budget draft IsOver = IsPast task budget

-- how a round ends is right: the initial state lies in a layer if it is lost, and more states are reachable than the budget if
-- that is passed; of a round that walked nothing is said
abbrev pub IsRound : Task → ℕ → Draft → Round → Type 0
IsRound task budget draft (Walked items) = ⊤
IsRound task budget draft Lost = LiesInLayers task.init draft.layers
IsRound task budget draft Past = IsPast task budget
