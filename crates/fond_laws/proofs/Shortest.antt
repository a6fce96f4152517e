-- `rate` accepts what `best` prints.
use Rattle.std.proofs.Common.{◌≡◌, ◌∙◌, ℕ, List, sym, ap, subst}
use Rattle.fond_ast.specs.declared.task.LiftedTask.{LiftedTask}
use Rattle.fond_task.specs.declared.task.Task.{Task}
use Rattle.fond_policy.specs.declared.best.BestCert.{BestCert}
use Rattle.fond_cert.proofs.OneCert.{one_best}
use Rattle.fond_cert.proofs.OneFault.{no_fault_as}
use Rattle.fond_cert.proofs.OwnLines.{best_leads}
use Rattle.fond_cert.specs.Faults.{IsBestFault}
use Rattle.fond_cert.specs.Spellings.{best_lines}
use Rattle.fond_cert.specs.declared.due.Document.TheVariants.{Best}
use Rattle.fond_best.specs.Certificates.{IsRightBest}
use Rattle.fond_best.specs.Ratings.{IsRating}
use Rattle.fond_best.specs.declared.rated.Rated.{Rated}
use Rattle.fond_best.specs.declared.rated.Rated.TheVariants.{Least}
use Rattle.fond_best.proofs.Verdicts.{right_rated}
use Rattle.fond_front.specs.Texts.{Texts}
use Rattle.fond_commands.specs.Certified.{DescribeGround, TaskReply}
use Rattle.fond_commands.specs.Ratings.{AnswersRate, IsBestText, IsRatedFault, RateReply, rated_reply}
use Rattle.fond_commands.specs.Replies.{Reply}
use Rattle.fond_commands.specs.declared.status.Ending.TheVariants.{Done}
use Rattle.fond_tool.specs.Bests.{AnswersBest, BestReply}
use Rattle.fond_tool.specs.Jobs.{texts as files}
use Rattle.fond_laws.proofs.OneTaskOfTexts.{texts_have_one_task_lem}
use Rattle.fond_laws.proofs.Refused.{not_refused}
use Rattle.fond_laws.proofs.SameBest.{same_best, same_best_belongs}
use Rattle.fond_laws.proofs.SameGround.{ground_of_same}
use Rattle.fond_laws.proofs.SameTask.{same_ground}
use Rattle.fond_laws.proofs.SameTexts.{same_best_spelling}
use Rattle.fond_laws.specs.Alike.{IsSameTask}
use Rattle.fond_laws.specs.Replies.{ShortestAreRated, least_reply}

module _ (task : LiftedTask) (game : Task) (cert : BestCert) (rank : ℕ) (text : List ℕ) (spelled : IsBestText game cert text) (right : IsRightBest game cert rank) where
  -- each verdict on a certificate that the text spells is its rank
  only : (read : BestCert) (rated : Rated) → IsBestText game read text → IsRating game read rated → rated ≡ Least rank
  only read rated also found =
      let same : read ≡ cert = one_best game read cert also.0 spelled.0 also.1 spelled.1 (sym also.2 ∙ spelled.2) in
      right_rated game cert rank rated right (subst (λ (c : BestCert). IsRating game c rated) same found)

  rated_so : (reply : Reply) → AnswersRate text task game reply → reply ≡ least_reply rank
  rated_so reply (AnswersRate.no_cert code byte fault) =
      absurd (no_fault_as Best game (best_lines game cert) code byte (best_leads game cert spelled.0 spelled.1) (subst (λ (t : List ℕ). IsBestFault game t code byte) spelled.2 fault))
  rated_so reply (AnswersRate.least read other also found best) = ap (λ (r : Rated). rated_reply game r) (only read (Least other) also found)
  rated_so reply (AnswersRate.rejected read rated also found fault) = absurd (subst IsRatedFault (only read rated also found) fault)

module _ (texts : Texts) (task : LiftedTask) (game : Task) (described : DescribeGround texts task game) (cert : BestCert) (rank : ℕ) (text : List ℕ) where
  -- a text spells the same certificate in each ground task of the task that three texts describe
  rated_of : IsBestText game cert text → IsRightBest game cert rank → (reply : Reply) → RateReply texts text reply → reply ≡ least_reply rank
  rated_of spelled right reply (TaskReply.refused fault refusal) = absurd (not_refused texts task fault described.0 refusal)
  rated_of spelled right reply (TaskReply.answered other another same also answers) =
      let alike : IsSameTask game another = same_ground other game another (ground_of_same task other game (texts_have_one_task_lem texts task other described.0.0 also.0.0) described.1) also.1 in
      rated_so other another cert rank text (same_best_belongs game another alike cert spelled.0, spelled.1, spelled.2 ∙ same_best_spelling game another alike cert)
      (same_best game another alike cert rank right) reply answers

shortest_of : (texts : Texts) (budget : ℕ) (printed reply : Reply) → BestReply texts budget printed → printed.ending ≡ Done → RateReply texts printed.text reply → (rank : ℕ) × (reply ≡ least_reply rank)
shortest_of texts budget printed reply (TaskReply.refused fault refusal) done rates = absurd cc
shortest_of texts budget printed reply (TaskReply.answered task game same described (AnswersBest.least cert rank text spelled right best solvable)) done rates = (rank, rated_of texts task game described cert rank text spelled right reply rates)
shortest_of texts budget printed reply (TaskReply.answered task game same described (AnswersBest.unsolvable layers text spelled right none)) done rates = absurd cc
shortest_of texts budget printed reply (TaskReply.answered task game same described (AnswersBest.undecided more)) done rates = absurd cc

pub shortest : ShortestAreRated
shortest budget domain problem side printed reply answers done rates = shortest_of (files domain problem side) budget printed reply answers done rates
