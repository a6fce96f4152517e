-- `check` accepts correct certificates, and what `plan` prints.
use Rattle.std.proofs.Common.{inl, inr, ◌≡◌, ◌∙◌, ◌⊎◌, ℕ, Bool, true, List, [], ◌∷◌, refl, sym, ap, subst}
use Rattle.std.specs.Prelude.{⊤}
use Rattle.fond_ast.specs.declared.task.LiftedTask.{LiftedTask}
use Rattle.fond_task.specs.declared.task.Task.{Task}
use Rattle.fond_cert.proofs.OneCert.{one_cert}
use Rattle.fond_cert.proofs.OneFault.{no_fault}
use Rattle.fond_cert.proofs.OwnLines.{cert_leads}
use Rattle.fond_cert.specs.Faults.{IsCertFault}
use Rattle.fond_cert.specs.Spellings.{cert_lines}
use Rattle.fond_policy.specs.declared.cert.Cert.{Cert}
use Rattle.fond_policy.specs.declared.cert.Cert.TheVariants.{Policy, Refusal, Covered}
use Rattle.fond_check.proofs.Accepted.{right_accepted}
use Rattle.fond_policy.specs.Parts.{IsRight}
use Rattle.fond_check.specs.Verdicts.{IsVerdict}
use Rattle.fond_check.specs.declared.verdict.Verdict.{Verdict}
use Rattle.fond_check.specs.declared.verdict.Verdict.TheVariants.{Accepted, Rule, Pair, LayerGoal, LayerAct, NoRule, Count, Outside, Item, Start}
use Rattle.fond_front.specs.Texts.{Texts}
use Rattle.fond_laws.proofs.OneTaskOfTexts.{texts_have_one_task_lem}
use Rattle.fond_laws.proofs.SameGround.{ground_of_same}
use Rattle.fond_laws.proofs.SameTask.{alike, same_ground}
use Rattle.fond_laws.specs.Alike.{AreAlike}
use Rattle.fond_commands.specs.Certified.{CertReply, DescribeGround, IsCertText, TaskReply}
use Rattle.fond_commands.specs.Checks.{AnswersCheck, CheckReply, IsFault, verdict_reply, verdict_ending}
use Rattle.fond_laws.specs.Replies.{CorrectAreAccepted, DemosAreAccepted, HopelessTasksAreRefused, IsCertEnding, MigratedAreAccepted, PlannedAreAccepted, SmallTasksAreDecided, accepted_reply}
use Rattle.fond_succ.proofs.Between.{ground-tasks-agree}
use Rattle.fond_ground.specs.Grounds.{IsGroundOf}
use Rattle.fond_ast.specs.Solutions.{IsSolvable, More}
use Rattle.fond_task.specs.Solutions as games
use Rattle.fond_task.proofs.Forced.{refusals_exclude}
use Rattle.fond_regress.specs.Stable.{IsHopeless}
use Rattle.fond_planner.proofs.Right.{right_hopeless}
use Rattle.fond_tool.specs.Jobs.{texts as files}
use Rattle.fond_tool.specs.Demos.{AnswersDemo, demo_text, demo_texts}
use Rattle.fond_commands.specs.Migrations.{AnswersMigrate, IsCoverText, MigrateReply}
use Rattle.fond_tool.specs.Plans.{AnswersPlan}
use Rattle.fond_commands.specs.Tasks.{Describe}
use Rattle.fond_commands.specs.Replies.{Reply}
use Rattle.fond_laws.proofs.Refused.{not_refused}
use Rattle.fond_commands.specs.declared.status.Ending.{Ending}
use Rattle.fond_commands.specs.declared.status.Ending.TheVariants.{Done, Unsolvable, Refused, Rejected}

module _ (task : LiftedTask) (game : Task) where
  -- a correct certificate is accepted
  correct_answer : (cert : Cert) (reply : Reply) → IsRight game cert → AnswersCheck task game cert reply → (lean : Bool) × IsVerdict game cert (Accepted lean) × (reply ≡ verdict_reply game cert (Accepted lean))
  correct_answer cert reply right (AnswersCheck.accepted lean found claim) = (lean, found, refl)
  correct_answer cert reply right (AnswersCheck.rejected verdict found fault) = absurd (subst IsFault (right_accepted game cert verdict right found).1 fault)

-- a certificate of one ground task of a task is one of each ground task of a task that is the same
module _ (game another : Task) (alike : AreAlike game another) where
  pub text_alike : (cert : Cert) (text : List ℕ) → IsCertText game cert text → IsCertText another cert text
  text_alike cert text is = (alike.belongs cert is.0, is.1, is.2 ∙ alike.spelled cert)

module _ (texts : Texts) where
  -- two ground tasks of the task that three texts describe are alike
  pub both_alike : (task other : LiftedTask) (game another : Task) → DescribeGround texts task game → DescribeGround texts other another → AreAlike game another
  both_alike task other game another one two = alike game another (same_ground other game another (ground_of_same task other game (texts_have_one_task_lem texts task other one.0.0 two.0.0) one.1) two.1)

  -- each reply of `check` to the text of a correct certificate is that of the verdict that it is accepted
  reply_to : (task : LiftedTask) (game : Task) (cert : Cert) (text : List ℕ) (reply : Reply) → DescribeGround texts task game → IsCertText game cert text → IsRight game cert → CheckReply texts text reply
      → (another : Task) × AreAlike game another × (lean : Bool) × IsVerdict another cert (Accepted lean) × (reply ≡ verdict_reply another cert (Accepted lean))
  reply_to task game cert text reply described is right (CertReply.refused fault refusal) = absurd (not_refused texts task fault described.0 refusal)
  reply_to task game cert text reply described is right (CertReply.no_cert other another code byte also fault) =
      let own = text_alike game another (both_alike task other game another described also) cert text is in
      absurd (no_fault another (cert_lines another cert) code byte (cert_leads another cert own.0 own.1) (subst (λ (t : List ℕ). IsCertFault another t code byte) own.2 fault))
  reply_to task game cert text reply described is right (CertReply.answered other another read given also spelled answers) =
      let agree = both_alike task other game another described also in
      let own = text_alike game another agree cert text is in
      let same : read ≡ cert = one_cert another read cert spelled.0 own.0 spelled.1 own.1 (sym spelled.2 ∙ own.2) in
      let found = correct_answer other another cert reply (agree.right cert right) (subst (λ (c : Cert). AnswersCheck other another c reply) same answers) in
      (another, agree, found.0, found.1, found.2)

accepted : (texts : Texts) (task : LiftedTask) (game : Task) (cert : Cert) (text : List ℕ) (reply : Reply) → DescribeGround texts task game → IsCertText game cert text → IsRight game cert → CheckReply texts text reply → reply.ending ≡ Done
accepted texts task game cert text reply described is right answers =
    let found = reply_to texts task game cert text reply described is right answers in
    ap (λ (r : Reply). r.ending) found.4

pub correct : CorrectAreAccepted
correct domain problem side task game cert text reply described is right answers = accepted (files domain problem side) task game cert text reply described is right answers

module _ (texts : Texts) (task : LiftedTask) (game : Task) (described : DescribeGround texts task game) where
  planned_by : (budget : ℕ) (printed reply : Reply) → AnswersPlan task game budget printed → IsCertEnding printed.ending → CheckReply texts printed.text reply → reply ≡ accepted_reply printed.ending
  planned_by budget printed reply (AnswersPlan.policy layers pairs rules items start text is right lean solves has) ends answers =
      let cert = Covered layers pairs rules items start in
      let found = reply_to texts task game cert text reply described is right answers in
      let is_lean : found.2 ≡ true = found.3.1.1 (found.1.items_lean layers pairs rules items lean) in
      found.4 ∙ ap (λ (b : Bool). verdict_reply found.0 cert (Accepted b)) is_lean
  planned_by budget printed reply (AnswersPlan.unsolvable layers text is right none) ends answers = (reply_to texts task game (Refusal layers) text reply described is right answers).4
  planned_by budget printed reply (AnswersPlan.undecided more hope) ends answers = absurd ends

planned_of : (texts : Texts) (budget : ℕ) (printed reply : Reply) → TaskReply texts (λ task game. AnswersPlan task game budget) printed → IsCertEnding printed.ending → CheckReply texts printed.text reply → reply ≡ accepted_reply printed.ending
planned_of texts budget printed reply (TaskReply.refused fault refusal) ends answers = absurd ends
planned_of texts budget printed reply (TaskReply.answered task game same described answered) ends answers = planned_by texts task game described budget printed reply answered ends answers

pub planned : PlannedAreAccepted
planned budget domain problem side printed reply answered ends answers = planned_of (files domain problem side) budget printed reply answered ends answers

-- whether an ending is that of a job that is done
abbrev is_done : Ending → Type 0
is_done Done = ⊤
is_done ending = ⊥

rejected_done : ¬ Rejected ≡ Done
rejected_done same = subst is_done (sym same) tt

refused_done : ¬ Refused ≡ Done
refused_done same = subst is_done (sym same) tt

-- what a policy of `demo` says between its lines is accepted as lean
shown_by : (size : ℕ) (task : LiftedTask) (game : Task) (printed : Reply) → DescribeGround (demo_texts size) task game → AnswersDemo size task game printed → printed.ending ≡ Done
    → (task : LiftedTask) × (game : Task) × (cert : List ℕ) × DescribeGround (demo_texts size) task game × (printed.text ≡ demo_text size game cert)
    × ((reply : Reply) → CheckReply (demo_texts size) cert reply → reply ≡ accepted_reply Done)
shown_by size task game printed described (AnswersDemo.policy cert answers) ends =
    (task, game, cert, described, refl, λ reply judged. planned_by (demo_texts size) task game described 1000000 (record { text = cert; ending = Done }) reply answers tt judged)
shown_by size task game printed described (AnswersDemo.other reply answers other) ends = absurd (other ends)

pub shown : DemosAreAccepted
shown size printed (TaskReply.refused fault refusal) ends = absurd (refused_done ends)
shown size printed (TaskReply.answered task game same described answers) ends = shown_by size task game printed described answers ends

module _ (texts : Texts) (task : LiftedTask) (budget : ℕ) (described : Describe texts task) (few : ¬ More task budget) where
  abbrev Decided : Reply → Type 0
  Decided reply = ((reply.ending ≡ Done) × IsSolvable task) ⊎ ((reply.ending ≡ Unsolvable) × (¬ IsSolvable task))

  -- a task with the same ground task agrees
  decided_by : (other : LiftedTask) (game : Task) (reply : Reply) → IsGroundOf other game → IsGroundOf task game → AnswersPlan other game budget reply → Decided reply
  decided_by other game reply is same (AnswersPlan.policy layers pairs rules items start text cert right lean solves has) =
      inl (refl, (ground-tasks-agree task game same).solvable.0 ((ground-tasks-agree other game is).solvable.1 has))
  decided_by other game reply is same (AnswersPlan.unsolvable layers text cert right none) =
      inr (refl, λ solvable. none ((ground-tasks-agree other game is).solvable.0 ((ground-tasks-agree task game same).solvable.1 solvable)))
  decided_by other game reply is same (AnswersPlan.undecided more hope) =
      absurd (few (((ground-tasks-agree task game same).more budget).0 (((ground-tasks-agree other game is).more budget).1 more)))

  small_decided : (reply : Reply) → TaskReply texts (λ task game. AnswersPlan task game budget) reply → Decided reply
  small_decided reply (TaskReply.refused fault refusal) = absurd (not_refused texts task fault described refusal)
  small_decided reply (TaskReply.answered other game same also answers) =
      decided_by other game reply also.1 (ground_of_same other task game (texts_have_one_task_lem texts other task also.0.0 described.0) also.1) answers

pub decided : SmallTasksAreDecided
decided domain problem side task budget reply described few answers = small_decided (files domain problem side) task budget described few reply answers

-- the refusal by the cube of a hopeless state is correct, so the task is not solvable
not_solvable : (game : Task) → IsHopeless game game.init → ¬ games.IsSolvable game
not_solvable game hopeless = refusals_exclude game ((hopeless.0 ∷ []) ∷ []) (right_hopeless game hopeless.0 hopeless.1).right

module _ (texts : Texts) (task : LiftedTask) (game : Task) (described : DescribeGround texts task game) (hopeless : IsHopeless game game.init) where
  hopeless_by : (other : LiftedTask) (another : Task) (budget : ℕ) (reply : Reply) → DescribeGround texts other another → AnswersPlan other another budget reply → reply.ending ≡ Unsolvable
  hopeless_by other another budget reply also (AnswersPlan.policy layers pairs rules items start text cert right lean solves has) =
      let agree = both_alike texts task other game another described also in
      absurd (not_solvable another (agree.hopeless hopeless) ((ground-tasks-agree other another also.1).solvable.1 has))
  hopeless_by other another budget reply also (AnswersPlan.unsolvable layers text cert right none) = refl
  hopeless_by other another budget reply also (AnswersPlan.undecided more hope) = absurd (hope ((both_alike texts task other game another described also).hopeless hopeless))

  hopeless_reply : (budget : ℕ) (reply : Reply) → TaskReply texts (λ task game. AnswersPlan task game budget) reply → reply.ending ≡ Unsolvable
  hopeless_reply budget reply (TaskReply.refused fault refusal) = absurd (not_refused texts task fault described.0 refusal)
  hopeless_reply budget reply (TaskReply.answered other another same also answers) = hopeless_by other another budget reply also answers

pub hopeless_refused : HopelessTasksAreRefused
hopeless_refused domain problem side task game budget reply described hopeless answers = hopeless_reply (files domain problem side) task game described hopeless budget reply answers

fault_done : (verdict : Verdict) → IsFault verdict → ¬ verdict_ending verdict ≡ Done
fault_done (Accepted lean) fault same = fault
fault_done (LayerGoal layer cube) fault same = rejected_done same
fault_done (LayerAct layer cube act) fault same = rejected_done same
fault_done (Pair number) fault same = rejected_done same
fault_done (Rule number) fault same = rejected_done same
fault_done (Count more) fault same = rejected_done same
fault_done (NoRule state) fault same = rejected_done same
fault_done Outside fault same = rejected_done same
fault_done (Item number) fault same = rejected_done same
fault_done Start fault same = rejected_done same

-- the text of a cover is accepted
cover_accepted : (texts : Texts) (task : LiftedTask) (game : Task) (read : Cert) (text : List ℕ) (reply : Reply) → DescribeGround texts task game → IsCoverText game read text → CheckReply texts text reply → reply.ending ≡ Done
cover_accepted texts task game (Policy layers pairs rules reach) text reply described covers answers = accepted texts task game (Covered layers pairs rules covers.0 covers.1) text reply described covers.2 covers.3 answers
cover_accepted texts task game (Refusal layers) text reply described covers answers = absurd covers
cover_accepted texts task game (Covered layers pairs rules items start) text reply described covers answers = absurd covers

migrated_by : (texts : Texts) (task : LiftedTask) (game : Task) (read : Cert) (cert : List ℕ) (written reply : Reply) → DescribeGround texts task game → IsCertText game read cert → AnswersMigrate cert game read written → written.ending ≡ Done
    → CheckReply texts written.text reply → reply.ending ≡ Done
migrated_by texts task game read cert written reply described spelled (AnswersMigrate.rejected verdict found fault) ends answers = absurd (fault_done verdict fault ends)
migrated_by texts task game read cert written reply described spelled (AnswersMigrate.covered text right to_cover covers) ends answers = cover_accepted texts task game read text reply described covers answers
migrated_by texts task game read cert written reply described spelled (AnswersMigrate.kept right other) ends answers = accepted texts task game read cert reply described spelled right answers

migrated_of : (texts : Texts) (cert : List ℕ) (written reply : Reply) → MigrateReply texts cert written → written.ending ≡ Done → CheckReply texts written.text reply → reply.ending ≡ Done
migrated_of texts cert written reply (CertReply.refused fault refusal) ends answers = absurd (refused_done ends)
migrated_of texts cert written reply (CertReply.no_cert task game code byte described fault) ends answers = absurd (rejected_done ends)
migrated_of texts cert written reply (CertReply.answered task game read given described spelled answered) ends answers = migrated_by texts task game read cert written reply described spelled answered ends answers

pub migrated : MigratedAreAccepted
migrated domain problem side cert written reply answered ends answers = migrated_of (files domain problem side) cert written reply answered ends answers
