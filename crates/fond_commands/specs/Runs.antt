-- What `run` replies to the texts of its files.
use Rattle.std.specs.Prelude.{ℕ, List}
use Rattle.fond_ast.specs.declared.task.LiftedTask.{LiftedTask}
use Rattle.fond_ast.specs.States.{State}
use Rattle.fond_ast.specs.Solutions.{initial}
use Rattle.fond_task.specs.declared.task.Task.{Task}
use Rattle.fond_policy.specs.declared.cert.Cert.{Cert}
use Rattle.fond_state.specs.Traces.{as_recorded}
use Rattle.fond_exec.specs.Scripts.{IsScript, IsScriptFault}
use Rattle.fond_succ.specs.Traces.{Trace}
use Rattle.fond_front.specs.Texts.{Texts}
use Rattle.fond_commands.specs.Certified.{CertReply, rules_of}
use Rattle.fond_commands.specs.Replies.{Reply, script_reply, trace_reply}

-- what `run` answers to a certificate of a task with this ground task: a rejection of the script, or the trace
pub data AnswersRun (script : List ℕ) (task : LiftedTask) (game : Task) (read : Cert) : Reply → Type 0 where
  bad_script : (byte : ℕ) → IsScriptFault script byte → AnswersRun script task game read (script_reply byte)
  ran : (numbers lines : List ℕ) (last : State) → IsScript script numbers → Trace as_recorded task game (rules_of read) (initial task) numbers lines last → AnswersRun script task game read (trace_reply task lines last)

-- what `run` replies: a refusal of its files, a rejection of the certificate's text, or the answer to the certificate
abbrev pub RunReply : Texts → List ℕ → List ℕ → Reply → Type 0
RunReply texts cert script = CertReply texts cert (AnswersRun script)
