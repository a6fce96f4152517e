-- What `plan` replies where it does not end with a refusal of its files.
use Rattle.std.proofs.Common.{◌≡◌, ℕ, refl, sym, subst}
use Rattle.fond_ast.specs.declared.task.LiftedTask.{LiftedTask}
use Rattle.fond_succ.proofs.Between.{ground-tasks-agree}
use Rattle.fond_cert.specs.Spellings.{spelling}
use Rattle.fond_policy.specs.declared.cert.Cert.{Cert}
use Rattle.fond_policy.specs.declared.cert.Cert.TheVariants.{Policy, Refusal, Covered}
use Rattle.fond_planner.specs.Decisions.{IsDecision, IsGoodCert}
use Rattle.fond_planner.specs.declared.decide.Decision.{Decision}
use Rattle.fond_planner.specs.declared.decide.Decision.TheVariants.{Certified, Undecided}
use Rattle.fond_task.proofs.Forced.{refusals_exclude}
use Rattle.fond_policy.proofs.Covered.{covers_solve}
use Rattle.fond_task.specs.Policies.{selected}
use Rattle.fond_ground.specs.Grounds.{IsGroundOf}
use Rattle.fond_task.specs.declared.task.Task.{Task}
use Rattle.fond_tool.specs.Decided.{cert_ending, decision_reply}
use Rattle.fond_tool.specs.Plans.{AnswersPlan}
use Rattle.fond_commands.specs.Replies.{Reply}
use Rattle.fond_tool.proofs.Solvable.{solvable}

module _ (task : LiftedTask) (game : Task) (budget : ℕ) (is : IsGroundOf task game) where
  certified : (cert : Cert) → IsGoodCert game cert → AnswersPlan task game budget (record { text = spelling game cert; ending = cert_ending cert })
  certified (Covered layers pairs rules items start) right =
      let solves = covers_solve game layers pairs rules items start right.right in
      AnswersPlan.policy layers pairs rules items start (spelling game (Covered layers pairs rules items start)) (right.belongs, right.small, refl) right.right right.lean
      (((ground-tasks-agree task game is).solution (selected rules)).0 solves)
      ((ground-tasks-agree task game is).solvable.0 (solvable game (selected rules) solves))
  certified (Policy layers pairs rules reach) right = absurd right.lean
  certified (Refusal layers) right =
      AnswersPlan.unsolvable layers (spelling game (Refusal layers)) (right.belongs, right.small, refl) right.right
      (λ solvable. refusals_exclude game layers right.right ((ground-tasks-agree task game is).solvable.1 solvable))

  decided_as : (decision : Decision) → IsDecision game budget decision → AnswersPlan task game budget (decision_reply game budget decision)
  decided_as (Certified cert) right = certified cert right
  decided_as Undecided (more, hope) = AnswersPlan.undecided (((ground-tasks-agree task game is).more budget).0 more) hope

  -- what is decided is the reply
  pub decided : (reply : Reply) → (decision : Decision) × IsDecision game budget decision × (reply ≡ decision_reply game budget decision) → AnswersPlan task game budget reply
  decided reply h = subst (AnswersPlan task game budget) (sym h.2) (decided_as h.0 h.1)
