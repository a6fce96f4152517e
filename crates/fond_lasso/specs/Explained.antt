-- What is found out about a policy of a ground task.
use Rattle.std.specs.Prelude.{ℕ, List, Bool}
use Rattle.std.specs.List.{AllZip}
use Rattle.fond_task.specs.declared.task.Task.{Task}
use Rattle.fond_task.specs.Policies.{Policy, game}
use Rattle.fond_task.specs.Solutions.{IsSolution}
use Rattle.fond_policy.specs.Counts.{ReachesMore}
use Rattle.fond_games.specs.Findings.{AreReached, ShowsStuck, ShowsLasso, TellsRank}
use Rattle.fond_games.specs.Lassos.{ActsEverywhere}
use Rattle.fond_games.specs.Rankings.{IsLeastRanking}
use Rattle.fond_lasso.specs.declared.finding.Finding.{Finding}
use Rattle.fond_lasso.specs.declared.finding.Finding.TheVariants.{Ranked, Stuck, Lasso, Spent}

-- what is found out about a policy. The states that it reaches, no more than a limit, are listed, and it is a solution, with the least
-- ranking, told by a level for each of them; or it is none, since it gets stuck on a run; or it is none, since chance and the opponent can
-- hold it in a lasso, although it acts in each of them that is no goal. Or it reaches more states than the limit
abbrev pub IsFinding : Task → Policy → ℕ → Finding → Type 0
IsFinding task policy limit (Ranked states levels) =
    AreReached (game task) policy limit states × IsSolution task policy
    × ((rank : List Bool → ℕ) × IsLeastRanking (game task) policy rank × AllZip (TellsRank (game task) rank) states levels.items)
IsFinding task policy limit (Stuck states stem) = AreReached (game task) policy limit states × (¬ IsSolution task policy) × ShowsStuck (game task) policy states stem.items
IsFinding task policy limit (Lasso states stem cycle) =
    AreReached (game task) policy limit states × (¬ IsSolution task policy) × ActsEverywhere (game task) policy × ShowsLasso (game task) policy states stem.items cycle.items
IsFinding task policy limit Spent = ReachesMore task policy limit
