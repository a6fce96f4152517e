-- What `rate` answers to a certificate.
use Rattle.std.proofs.Common.{◌≡◌, ℕ, List, sym, subst}
use Rattle.fond_ast.specs.declared.task.LiftedTask.{LiftedTask}
use Rattle.fond_task.specs.declared.task.Task.{Task}
use Rattle.fond_task.specs.Policies.{selected}
use Rattle.fond_policy.specs.declared.best.BestCert.{BestCert}
use Rattle.fond_ground.specs.Grounds.{IsGroundOf}
use Rattle.fond_succ.proofs.Between.{ground-tasks-agree}
use Rattle.fond_best.specs.Ratings.{IsRating}
use Rattle.fond_best.specs.declared.rated.Rated.{Rated}
use Rattle.fond_best.specs.declared.rated.Rated.TheVariants.{Least, LayerGoal, LayerAct, Rule, Item, Start, Rank, FarGoal, FarAct, Bound}
use Rattle.fond_best.proofs.Best.{best_by}
use Rattle.fond_commands.specs.Ratings.{AnswersRate, IsBestText, rated_reply}
use Rattle.fond_commands.specs.Replies.{Reply}

module _ (task : LiftedTask) (game : Task) (is : IsGroundOf task game) (text : List ℕ) (read : BestCert) (spelled : IsBestText game read text) where
  rated_as : (rated : Rated) → IsRating game read rated → AnswersRate text task game (rated_reply game rated)
  rated_as (Least rank) found = AnswersRate.least read rank spelled found ((ground-tasks-agree task game is).best (selected read.rules) rank (best_by game read rank found))
  rated_as (LayerGoal layer cube) found = AnswersRate.rejected read (LayerGoal layer cube) spelled found tt
  rated_as (LayerAct layer cube act) found = AnswersRate.rejected read (LayerAct layer cube act) spelled found tt
  rated_as (Rule number) found = AnswersRate.rejected read (Rule number) spelled found tt
  rated_as (Item number) found = AnswersRate.rejected read (Item number) spelled found tt
  rated_as Start found = AnswersRate.rejected read Start spelled found tt
  rated_as (Rank number) found = AnswersRate.rejected read (Rank number) spelled found tt
  rated_as (FarGoal list cube) found = AnswersRate.rejected read (FarGoal list cube) spelled found tt
  rated_as (FarAct list cube act) found = AnswersRate.rejected read (FarAct list cube act) spelled found tt
  rated_as Bound found = AnswersRate.rejected read Bound spelled found tt

  -- the verdict is the answer
  pub judged : (reply : Reply) → (rated : Rated) × IsRating game read rated × (reply ≡ rated_reply game rated) → AnswersRate text task game reply
  judged reply h = subst (AnswersRate text task game) (sym h.2) (rated_as h.0 h.1)
