-- What `check` replies where it does not end with a refusal of its files.
use Rattle.std.proofs.Common.{◌≡◌, Bool, sym, subst}
use Rattle.fond_ast.specs.declared.task.LiftedTask.{LiftedTask}
use Rattle.fond_succ.proofs.Between.{ground-tasks-agree}
use Rattle.fond_policy.specs.declared.cert.Cert.{Cert}
use Rattle.fond_policy.specs.declared.cert.Cert.TheVariants.{Policy, Refusal, Covered}
use Rattle.fond_check.specs.Verdicts.{IsVerdict}
use Rattle.fond_check.specs.declared.verdict.Verdict.{Verdict}
use Rattle.fond_check.specs.declared.verdict.Verdict.TheVariants.{Accepted, Rule, Pair, LayerGoal, LayerAct, NoRule, Count, Outside, Item, Start}
use Rattle.fond_task.proofs.Forced.{refusals_exclude}
use Rattle.fond_task.proofs.Ranks.{ranks_exclude}
use Rattle.fond_task.specs.Policies.{selected}
use Rattle.fond_policy.proofs.Covered.{covers_solve}
use Rattle.fond_ground.specs.Grounds.{IsGroundOf}
use Rattle.fond_task.specs.declared.task.Task.{Task}
use Rattle.fond_commands.specs.Certified.{Claim}
use Rattle.fond_commands.specs.Checks.{AnswersCheck, verdict_reply}
use Rattle.fond_commands.specs.Replies.{Reply}

-- what a correct certificate claims is true
pub claimed : (task : LiftedTask) (game : Task) (read : Cert) (lean : Bool) → IsGroundOf task game → IsVerdict game read (Accepted lean) → Claim task game read
claimed task game (Policy layers pairs rules reach) lean is right = ((ground-tasks-agree task game is).solution (selected rules)).0 (ranks_exclude game layers pairs rules reach right.0)
claimed task game (Covered layers pairs rules items start) lean is right = ((ground-tasks-agree task game is).solution (selected rules)).0 (covers_solve game layers pairs rules items start right.0)
claimed task game (Refusal layers) lean is right = λ solvable. refusals_exclude game layers right.0 ((ground-tasks-agree task game is).solvable.1 solvable)

module _ (task : LiftedTask) (game : Task) (is : IsGroundOf task game) (read : Cert) where
  judged_as : (verdict : Verdict) → IsVerdict game read verdict → AnswersCheck task game read (verdict_reply game read verdict)
  judged_as (Accepted lean) found = AnswersCheck.accepted lean found (claimed task game read lean is found)
  judged_as (LayerGoal layer cube) found = AnswersCheck.rejected (LayerGoal layer cube) found tt
  judged_as (LayerAct layer cube act) found = AnswersCheck.rejected (LayerAct layer cube act) found tt
  judged_as (Pair number) found = AnswersCheck.rejected (Pair number) found tt
  judged_as (Rule number) found = AnswersCheck.rejected (Rule number) found tt
  judged_as (Count more) found = AnswersCheck.rejected (Count more) found tt
  judged_as (NoRule state) found = AnswersCheck.rejected (NoRule state) found tt
  judged_as Outside found = AnswersCheck.rejected Outside found tt
  judged_as (Item number) found = AnswersCheck.rejected (Item number) found tt
  judged_as Start found = AnswersCheck.rejected Start found tt

  -- the verdict is the answer
  pub judged : (reply : Reply) → (verdict : Verdict) × IsVerdict game read verdict × (reply ≡ verdict_reply game read verdict) → AnswersCheck task game read reply
  judged reply h = subst (AnswersCheck task game read) (sym h.2) (judged_as h.0 h.1)
