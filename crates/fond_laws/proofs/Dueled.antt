-- A duel of a correct policy ends at a goal.
use Rattle.std.proofs.Common.{◌≡◌, ◌≤◌, ◌∙◌, ℕ, Bool, true, List, [], length, sym, ap, subst}
use Rattle.std.specs.Prelude.{if◌then◌else◌}
use Rattle.fond_ast.specs.declared.task.LiftedTask.{LiftedTask}
use Rattle.fond_ast.specs.Truths.{holds}
use Rattle.fond_ast.proofs.Tested.{truth-is-tested}
use Rattle.fond_task.specs.declared.rule.Pair.{Pair}
use Rattle.fond_task.specs.declared.task.Task.{Task}
use Rattle.fond_task.specs.Policies.{selected}
use Rattle.fond_task.specs.Solutions as games
use Rattle.fond_task.proofs.Ranks.{ranks_exclude}
use Rattle.fond_policy.proofs.Covered.{covers_solve}
use Rattle.fond_policy.specs.Parts.{IsRight}
use Rattle.fond_policy.specs.declared.cert.Cert.{Cert}
use Rattle.fond_policy.specs.declared.cert.Cert.TheVariants.{Policy, Refusal, Covered}
use Rattle.fond_cert.proofs.OneCert.{one_cert}
use Rattle.fond_cert.proofs.OneFault.{no_fault}
use Rattle.fond_cert.proofs.OwnLines.{cert_leads}
use Rattle.fond_cert.specs.Faults.{IsCertFault}
use Rattle.fond_cert.specs.Spellings.{cert_lines}
use Rattle.fond_exec.specs.Lucky.{AreSure}
use Rattle.fond_exec.proofs.Duelling.{duels_end}
use Rattle.fond_state.specs.Traces.{as_recorded}
use Rattle.fond_succ.specs.Stands.{stands}
use Rattle.fond_succ.proofs.Between.{ground-tasks-play}
use Rattle.fond_ground.specs.Grounds.{IsGroundOf}
use Rattle.fond_front.specs.Texts.{Texts}
use Rattle.fond_commands.specs.Certified.{CertReply, DescribeGround, IsCertText, rules_of}
use Rattle.fond_commands.specs.Duels.{AnswersDuel, DuelReply}
use Rattle.fond_commands.specs.Replies.{Reply}
use Rattle.fond_commands.specs.declared.status.Ending.TheVariants.{Done, Stopped}
use Rattle.fond_commands.proofs.Runs.{last_long}
use Rattle.fond_tool.specs.Jobs.{texts as files}
use Rattle.fond_laws.specs.Replies.{DuelsReachGoals, IsPolicyCert}
use Rattle.fond_laws.proofs.Accepted.{both_alike, text_alike}
use Rattle.fond_laws.proofs.Refused.{not_refused}

-- the rules of a correct policy are sure beside some pairs, and a solution
record Solves (game : Task) (cert : Cert) : Type 0 where
  pairs : List Pair
  sure : AreSure game pairs (rules_of cert)
  solution : games.IsSolution game (selected (rules_of cert))

solves : (game : Task) (cert : Cert) → IsRight game cert → IsPolicyCert cert → Solves game cert
solves game (Policy layers pairs rules reach) right policy = record { pairs = pairs; sure = right.rules_sure; solution = ranks_exclude game layers pairs rules reach right }
solves game (Covered layers pairs rules items start) right policy = record { pairs = pairs; sure = right.sure.rules_sure; solution = covers_solve game layers pairs rules items start right }
solves game (Refusal layers) right policy = absurd policy

-- a duel of a correct policy with no more rules than steps ends at a goal
ends_done : (steps : ℕ) (task : LiftedTask) (game : Task) (is : IsGroundOf task game) (cert : Cert) (reply : Reply) → IsRight game cert → IsPolicyCert cert → length (rules_of cert) ≤ steps → AnswersDuel steps task game cert reply → reply.ending ≡ Done
ends_done steps task game is cert reply right policy few (AnswersDuel.fought words lines last long picks trace also) =
    let own = solves game cert right policy in
    let enough : length (rules_of cert) ≤ length words = subst (λ n. length (rules_of cert) ≤ n) (sym long) few in
    let goal = duels_end game own.pairs (rules_of cert) words lines last own.sure own.solution picks enough trace in
    let state = last_long as_recorded game (rules_of cert) game.init words lines last game.init_long trace in
    let held : holds (stands task last) [] task.goal ≡ true = (truth-is-tested (stands task last) [] task.goal).0 (((ground-tasks-play task game is).goal last state).0 goal) in
    ap (λ (b : Bool). if b then Done else Stopped) held

module _ (texts : Texts) where
  ends : (task : LiftedTask) (game : Task) (cert : Cert) (text : List ℕ) (steps : ℕ) (reply : Reply) → DescribeGround texts task game → IsCertText game cert text → IsRight game cert → IsPolicyCert cert → length (rules_of cert) ≤ steps → DuelReply texts text steps reply
      → reply.ending ≡ Done
  ends task game cert text steps reply described is right policy few (CertReply.refused fault refusal) = absurd (not_refused texts task fault described.0 refusal)
  ends task game cert text steps reply described is right policy few (CertReply.no_cert other another code byte also fault) =
      let own = text_alike game another (both_alike texts task other game another described also) cert text is in
      absurd (no_fault another (cert_lines another cert) code byte (cert_leads another cert own.0 own.1) (subst (λ (t : List ℕ). IsCertFault another t code byte) own.2 fault))
  ends task game cert text steps reply described is right policy few (CertReply.answered other another read given also spelled answers) =
      let agree = both_alike texts task other game another described also in
      let own = text_alike game another agree cert text is in
      let same : read ≡ cert = one_cert another read cert spelled.0 own.0 spelled.1 own.1 (sym spelled.2 ∙ own.2) in
      ends_done steps other another also.1 cert reply (agree.right cert right) policy few (subst (λ (c : Cert). AnswersDuel steps other another c reply) same answers)

pub duels_reach : DuelsReachGoals
duels_reach domain problem side task game cert text steps reply described is right policy few answers = ends (files domain problem side) task game cert text steps reply described is right policy few answers
