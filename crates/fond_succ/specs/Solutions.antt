-- Solutions, reached states, stuck runs, lassos and rankings agree between a ground task and its task.
use Rattle.std.specs.Prelude.{◌≡◌, ◌↔◌, ℕ, Bool, List, map, option_and_then}
use Rattle.fond_ast.specs.declared.task.LiftedTask.{LiftedTask}
use Rattle.fond_state.specs.Games as games
use Rattle.fond_ast.specs.States.{State}
use Rattle.fond_ast.specs.Solutions as lifted
use Rattle.fond_games.specs.Findings.{ShowsLasso, ShowsStuck}
use Rattle.fond_games.specs.Lassos.{ActsEverywhere}
use Rattle.fond_games.specs.Rankings.{IsLeastRanking}
use Rattle.fond_games.specs.Ranks.{IsBest}
use Rattle.fond_rules.specs.declared.table.TableRow.{TableRow}
use Rattle.fond_rules.specs.Tables.{table_choice}
use Rattle.fond_task.specs.Policies as ground
use Rattle.fond_task.specs.Policies.{selected}
use Rattle.fond_task.specs.Solutions as ground_solutions
use Rattle.fond_task.specs.declared.rule.Rule.{Rule}
use Rattle.fond_task.specs.declared.task.Task.{Task}
use Rattle.fond_succ.specs.Stands.{restrict, stands}
use Rattle.fond_succ.specs.Games.{action_of}

-- a policy of the ground task in the states of the task: it chooses the action of the number that is chosen for the truth
-- values of the fluent atoms, and none if there is no such action
abbrev pub lifted_policy : LiftedTask → Task → ground.Policy → lifted.Policy
lifted_policy task game choose state = option_and_then (action_of game) (choose (restrict task state))

-- the policy of a rule list in the states of the task: it chooses the action of the first rule whose literals all hold
abbrev pub rules_policy : LiftedTask → Task → List Rule → lifted.Policy
rules_policy task game rules = lifted_policy task game (selected rules)

-- the policy of a table in the states of the task: it chooses the action of the first row whose literals all hold
abbrev pub table_policy : LiftedTask → Task → List TableRow → lifted.Policy
table_policy task game rows = lifted_policy task game (table_choice rows)

-- a ground task and its task agree. A policy of the ground task is a solution of the one if and only if it is one of the other,
-- it reaches the states for which reached ones stand, and as many, and in both or in neither more than a number; one is solvable if and
-- only if the other is; and in both or none more than a number of states can be reached. The policy acts everywhere in both or in none;
-- what tells of a stuck run or of a lasso of it in the ground task tells of one in the task, with the states for which the listed ones
-- stand; if it acts everywhere, its least ranking in the ground task is that in the task, state by state; and a solution of least rank
-- in the ground task is one in the task
pub record Agree (task : LiftedTask) (game : Task) : Type 0 where
  pub solution : (choose : ground.Policy) → ground_solutions.IsSolution game choose ↔ lifted.IsSolution task (lifted_policy task game choose)
  pub reached : (choose : ground.Policy) (state : State)
      → lifted.Reach task (lifted_policy task game choose) state ↔ ((values : List Bool) × ground.Reach game choose values × (state ≡ stands task values))
  pub count : (choose : ground.Policy) (count : ℕ) → games.ReachesCount (ground.game game) choose count ↔ games.ReachesCount (lifted.game task) (lifted_policy task game choose) count
  pub solvable : ground_solutions.IsSolvable game ↔ lifted.IsSolvable task
  pub more : (bound : ℕ) → games.More (ground.game game) bound ↔ lifted.More task bound
  pub reaches_more : (choose : ground.Policy) (bound : ℕ) → games.ReachesMore (ground.game game) choose bound ↔ games.ReachesMore (lifted.game task) (lifted_policy task game choose) bound
  pub acts : (choose : ground.Policy) → ActsEverywhere (ground.game game) choose ↔ ActsEverywhere (lifted.game task) (lifted_policy task game choose)
  pub stuck : (choose : ground.Policy) (listed : List (List Bool)) (stem : List ℕ)
      → ShowsStuck (ground.game game) choose listed stem → ShowsStuck (lifted.game task) (lifted_policy task game choose) (map (stands task) listed) stem
  pub lasso : (choose : ground.Policy) (listed : List (List Bool)) (stem cycle : List ℕ)
      → ShowsLasso (ground.game game) choose listed stem cycle → ShowsLasso (lifted.game task) (lifted_policy task game choose) (map (stands task) listed) stem cycle
  pub least : (choose : ground.Policy) (rank : List Bool → ℕ) → ActsEverywhere (ground.game game) choose
      → IsLeastRanking (ground.game game) choose rank → IsLeastRanking (lifted.game task) (lifted_policy task game choose) (λ state. rank (restrict task state))
  pub best : (choose : ground.Policy) (rank : ℕ) → IsBest (ground.game game) choose rank → IsBest (lifted.game task) (lifted_policy task game choose) rank
