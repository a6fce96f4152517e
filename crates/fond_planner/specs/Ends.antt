-- How the making of a policy ends.
use Rattle.std.specs.Prelude.{ℕ}
use Rattle.fond_task.specs.declared.task.Task.{Task}
use Rattle.fond_task.specs.Certificates.{LiesInLayers}
use Rattle.fond_covering.specs.Coverings.{IsCovering}
use Rattle.fond_planner.specs.Decisions.{IsPast}
use Rattle.fond_planner.specs.declared.decide.End.{End}
use Rattle.fond_planner.specs.declared.decide.End.TheVariants.{Policy, Refusal, Past}
use Rattle.fond_draft.specs.declared.draft.Draft.{Draft}

-- an end is right: the items cover what the rules reach; or the initial state lies in a layer; or more states are reachable than
-- the budget
abbrev pub IsEnd : Task → ℕ → Draft → End → Type 0
IsEnd task budget draft (Policy covering) = IsCovering task draft.rules covering.items covering.start
IsEnd task budget draft Refusal = LiesInLayers task.init draft.layers
IsEnd task budget draft Past = IsPast task budget
