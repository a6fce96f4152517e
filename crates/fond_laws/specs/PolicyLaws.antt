-- What characterizes solutions: lassos, rankings, and where chance or an opponent picks alone, the field's strong cyclic and strong solutions.
use Rattle.std.specs.Prelude.{◌↔◌, ◌⊎◌, ℕ, List, Bool}
use Rattle.fond_state.specs.Games.{Game, Policy, IsFiniteMap, IsSolution}
use Rattle.fond_games.specs.Lassos.{Lasso, Stuck, NoneUnfair, AllUnfair, ActsEverywhere, GoalsInReach, WalksBounded}
use Rattle.fond_games.specs.Rankings.{IsRanking, IsLeastRanking}
use Rattle.fond_task.specs.declared.task.Task.{Task}
use Rattle.fond_task.specs.Policies as ground
use Rattle.fond_ast.specs.declared.task.LiftedTask.{LiftedTask}
use Rattle.fond_ast.specs.Solutions as lifted

-- what characterizes solutions, for a policy of a game: it is none if and only if it is stuck or has a lasso; if it acts everywhere, a
-- ranking makes it one, and each solution has a least ranking; where no action is unfair, it is one if and only if it acts everywhere and
-- keeps goals in reach; where every action is, if and only if it acts everywhere and its walks are bounded
pub record IsCharacterized {S A : Type 0} (game : Game S A) (policy : Policy S A) : Type 0 where
  pub refuted : Stuck game policy ⊎ Lasso game policy → ¬ IsSolution game policy
  pub found : ¬ IsSolution game policy → Stuck game policy ⊎ Lasso game policy
  pub ranked : ActsEverywhere game policy → (rank : S → ℕ) → IsRanking game policy rank → IsSolution game policy
  pub least : IsSolution game policy → (rank : S → ℕ) × IsLeastRanking game policy rank
  pub cyclic : NoneUnfair game → IsSolution game policy ↔ (ActsEverywhere game policy × GoalsInReach game policy)
  pub strong : AllUnfair game → IsSolution game policy ↔ (ActsEverywhere game policy × WalksBounded game policy)

-- the finite maps of a ground task are characterized
abbrev pub GroundMapsAreCharacterized : Type 0
GroundMapsAreCharacterized = (task : Task) (policy : Policy (List Bool) ℕ) → IsFiniteMap policy → IsCharacterized (ground.game task) policy

-- the finite maps of a task are characterized
abbrev pub MapsAreCharacterized : Type 0
MapsAreCharacterized = (task : LiftedTask) (policy : lifted.Policy) → IsFiniteMap policy → IsCharacterized (lifted.game task) policy
