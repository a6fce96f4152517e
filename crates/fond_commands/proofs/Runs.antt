-- What `run`, `simulate` and `duel` answer to a certificate.
use Rattle.std.proofs.Common.{◌≡◌, ℕ, ◌<◌, ◌∙◌, ◌++◌, Bool, List, [], length, sym, ap, subst}
use Rattle.std.proofs.lemmas.List.Elements.{All-nil}
use Rattle.std.specs.Prelude.{if◌then◌else◌}
use Rattle.fond_ast.specs.declared.task.LiftedTask.{LiftedTask}
use Rattle.fond_succ.specs.Games.{IsState}
use Rattle.fond_succ.specs.Stands.{stands}
use Rattle.fond_succ.proofs.Between.{ground-tasks-play, texts-agree, traces-stand}
use Rattle.fond_succ.proofs.Firsts.{same_tests}
use Rattle.fond_policy.specs.Belongs.{Belongs}
use Rattle.fond_policy.specs.declared.cert.Cert.{Cert}
use Rattle.fond_policy.specs.declared.cert.Cert.TheVariants.{Policy, Refusal, Covered}
use Rattle.fond_rules.specs.Belongs.{BelongTo}
use Rattle.fond_succ.specs.Traces.{Trace}
use Rattle.fond_exec.specs.Traces as steps
use Rattle.fond_state.specs.Traces.{Pick, TraceOf, as_recorded, by_remainder}
use Rattle.fond_task.specs.declared.rule.Rule.{Rule}
use Rattle.fond_ground.specs.Grounds.{IsGroundOf}
use Rattle.fond_ast.specs.Solutions.{initial}
use Rattle.fond_ast.specs.States.{State}
use Rattle.fond_ast.specs.Truths.{holds}
use Rattle.fond_ast.proofs.Tested.{truth-is-tested}
use Rattle.fond_exec.specs.declared.script.ScriptError.{ScriptError}
use Rattle.fond_exec.specs.declared.script.ScriptError.TheVariants as script_error
use Rattle.fond_exec.specs.Duels.{ArePicks}
use Rattle.fond_exec.specs.Scripts.{IsScript, IsScriptFault, ScriptRefuses}
use Rattle.fond_task.specs.declared.task.Task.{Task}
use Rattle.fond_task.specs.Truth.{is_true}
use Rattle.fond_task.proofs.Indices.{length-by_index}
use Rattle.fond_commands.specs.declared.status.Ending.TheVariants.{Done, Stopped}
use Rattle.fond_demo.specs.Words.{drawn_words}
use Rattle.fond_commands.specs.GroundRuns.{IsTraceReply, ground_reply}
use Rattle.fond_commands.specs.Simulations.{AnswersSimulate}
use Rattle.fond_commands.specs.Rejections.{Rejects, of_script}
use Rattle.fond_commands.specs.Replies.{Reply, trace_reply}
use Rattle.fond_commands.specs.Certified.{rules_of}
use Rattle.fond_commands.specs.Runs.{AnswersRun}
use Rattle.fond_commands.specs.Duels.{AnswersDuel}

-- the last state of a trace has a truth value for each atom
pub last_long : (pick : Pick) (game : Task) (rules : List Rule) (values : List Bool) (words lines : List ℕ) (last : List Bool) → IsState game values → steps.Trace pick game rules values words lines last → IsState game last
last_long pick game rules values words lines last state (TraceOf.goal at left is) = state
last_long pick game rules values words lines last state (TraceOf.ended at open_) = state
last_long pick game rules values words lines last state (TraceOf.stuck at outcome left open_ none) = state
last_long pick game rules values words lines last state (TraceOf.bad_outcome at outcome left choice open_ chosen over) = state
last_long pick game rules values words lines last state (TraceOf.took at word left choice line next text end open_ chosen leads later) =
    last_long pick game rules next left text end (ap length leads.3.2 ∙ length-by_index _ at ∙ state) later

-- the reply by the ground task is that by the task
reply_alike : (task : LiftedTask) (game : Task) (lines : List ℕ) (last : List Bool) → IsGroundOf task game → IsState game last → ground_reply game lines last ≡ trace_reply task lines (stands task last)
reply_alike task game lines last is state = λ i. record {
  text = lines ++ texts-agree task game last is state i;
  ending = if same i then Done else Stopped;
}
  where
    same : is_true last game.goal ≡ holds (stands task last) [] task.goal
    same =
        same_tests _ _
        (λ told. (truth-is-tested (stands task last) [] task.goal).0 (((ground-tasks-play task game is).goal last state).0 told))
        (λ told. ((ground-tasks-play task game is).goal last state).1 ((truth-is-tested (stands task last) [] task.goal).1 told))

-- the reply by a trace of the ground task is that by one of the task
lifted : (pick : Pick) (task : LiftedTask) (game : Task) (is : IsGroundOf task game) (rules : List Rule) (words : List ℕ) (reply : Reply) → IsTraceReply pick game rules words reply
    → (lines : List ℕ) × (last : State) × Trace pick task game rules (initial task) words lines last × (reply ≡ trace_reply task lines last)
lifted pick task game is rules words reply h = (
  h.0,
  stands task h.1,
  traces-stand pick task game rules words h.0 h.1 is h.2,
  h.3 ∙ reply_alike task game h.0 h.1 is (last_long pick game rules game.init words h.0 h.1 game.init_long h.2),
)

-- the rules of a certificate of a task belong to it
pub rules_belong : (game : Task) (cert : Cert) → Belongs game cert → BelongTo game (rules_of cert)
rules_belong game (Policy layers pairs rules reach) belongs = belongs.2.belong
rules_belong game (Covered layers pairs rules items start) belongs = belongs.2.belong
rules_belong game (Refusal layers) belongs = record {
  over = All-nil (λ (rule : Rule). length rule.cond ≡ length game.atoms);
  there = All-nil (λ (rule : Rule). rule.act < length game.acts);
}

-- a script with a fault is rejected with it
pub script_rejected : (script : List ℕ) (task : LiftedTask) (game : Task) (read : Cert) (error : ScriptError) → ScriptRefuses (IsScriptFault script) error → Rejects (AnswersRun script task game read) (of_script error)
script_rejected script task game read (script_error.Refused byte) fault = AnswersRun.bad_script byte fault
script_rejected script task game read script_error.NoMemory fault = tt

-- the trace over the numbers of the script is the answer
pub traced : (script : List ℕ) (task : LiftedTask) (game : Task) (read : Cert) (is : IsGroundOf task game) (numbers : List ℕ) (reply : Reply) → IsScript script numbers → IsTraceReply as_recorded game (rules_of read) numbers reply
    → AnswersRun script task game read reply
traced script task game read is numbers reply spelled h =
    let alike = lifted as_recorded task game is (rules_of read) numbers reply h in
    subst (AnswersRun script task game read) (sym alike.3) (AnswersRun.ran numbers alike.0 alike.1 spelled alike.2)

-- the trace over drawn words is the answer
pub simulated : (seed steps : ℕ) (task : LiftedTask) (game : Task) (read : Cert) (is : IsGroundOf task game) (reply : Reply) → IsTraceReply by_remainder game (rules_of read) (drawn_words seed steps) reply → AnswersSimulate seed steps task game read reply
simulated seed steps task game read is reply h =
    let alike = lifted by_remainder task game is (rules_of read) (drawn_words seed steps) reply h in
    subst (AnswersSimulate seed steps task game read) (sym alike.3) (AnswersSimulate.ran alike.0 alike.1 alike.2)

-- the trace over the picks of a duel is the answer
pub fought : (steps : ℕ) (task : LiftedTask) (game : Task) (read : Cert) (is : IsGroundOf task game) (reply : Reply)
    → (words : List ℕ) × (length words ≡ steps) × ArePicks game (rules_of read) game.init words × IsTraceReply as_recorded game (rules_of read) words reply → AnswersDuel steps task game read reply
fought steps task game read is reply h =
    let words = h.0 in
    let lines = h.3.0 in
    let last = h.3.1 in
    let trace = h.3.2 in
    let same : reply ≡ trace_reply task lines (stands task last) = h.3.3 ∙ reply_alike task game lines last is (last_long as_recorded game (rules_of read) game.init words lines last game.init_long trace) in
    subst (AnswersDuel steps task game read) (sym same) (AnswersDuel.fought words lines last h.1 h.2 trace (traces-stand as_recorded task game (rules_of read) words lines last is trace))
