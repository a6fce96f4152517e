-- What `best` replies where it does not end with a refusal of its files.
use Rattle.std.proofs.Common.{◌≡◌, ℕ, refl, sym, subst}
use Rattle.fond_ast.specs.declared.task.LiftedTask.{LiftedTask}
use Rattle.fond_succ.proofs.Between.{ground-tasks-agree}
use Rattle.fond_cert.specs.Spellings.{best_spelling, spelling}
use Rattle.fond_policy.specs.declared.cert.Cert.{Cert}
use Rattle.fond_policy.specs.declared.cert.Cert.TheVariants.{Policy, Refusal, Covered}
use Rattle.fond_planner.specs.Decisions.{IsGoodCert}
use Rattle.fond_task.proofs.Forced.{refusals_exclude}
use Rattle.fond_task.specs.Policies.{selected}
use Rattle.fond_task.specs.declared.task.Task.{Task}
use Rattle.fond_ground.specs.Grounds.{IsGroundOf}
use Rattle.fond_best.proofs.Best.{best_by}
use Rattle.fond_shortest.specs.Bests.{IsBestAnswer, IsRefusal}
use Rattle.fond_shortest.specs.declared.answer.BestAnswer.{BestAnswer}
use Rattle.fond_shortest.specs.declared.answer.BestAnswer.TheVariants.{Least, Refusal as Refused, Undecided}
use Rattle.fond_tool.specs.Bests.{AnswersBest, best_reply}
use Rattle.fond_commands.specs.Replies.{Reply}
use Rattle.fond_commands.specs.declared.status.Ending.TheVariants.{Unsolvable}
use Rattle.fond_tool.proofs.Solvable.{solvable}

module _ (task : LiftedTask) (ground : Task) (budget : ℕ) (is : IsGroundOf task ground) where
  refused : (cert : Cert) → IsGoodCert ground cert → IsRefusal cert → AnswersBest task ground budget (record { text = spelling ground cert; ending = Unsolvable })
  refused (Refusal layers) good it =
      AnswersBest.unsolvable layers (spelling ground (Refusal layers)) (good.belongs, good.small, refl) good.right
      (λ solves. refusals_exclude ground layers good.right ((ground-tasks-agree task ground is).solvable.1 solves))
  refused (Policy layers pairs rules reach) good it = absurd it
  refused (Covered layers pairs rules items start) good it = absurd it

  found_as : (found : BestAnswer) → IsBestAnswer ground budget found → AnswersBest task ground budget (best_reply ground budget found)
  found_as (Least cert) good =
      let best = best_by ground cert good.rank good.right in
      AnswersBest.least cert good.rank (best_spelling ground cert) (good.belongs, good.small, refl) good.right
      ((ground-tasks-agree task ground is).best (selected cert.rules) good.rank best)
      ((ground-tasks-agree task ground is).solvable.0 (solvable ground (selected cert.rules) best.solves))
  found_as (Refused cert) good = refused cert good.0 good.1
  found_as Undecided more = AnswersBest.undecided (((ground-tasks-agree task ground is).more budget).0 more)

  -- the reply to what is found is that of `best`
  pub replied : (found : BestAnswer) → IsBestAnswer ground budget found → (reply : Reply) → reply ≡ best_reply ground budget found → AnswersBest task ground budget reply
  replied found right reply is_reply = subst (AnswersBest task ground budget) (sym is_reply) (found_as found right)
