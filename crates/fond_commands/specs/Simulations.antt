-- What `simulate` replies to the texts of its files, for a seed and a number of steps.
use Rattle.std.specs.Prelude.{ℕ, List}
use Rattle.fond_ast.specs.declared.task.LiftedTask.{LiftedTask}
use Rattle.fond_ast.specs.States.{State}
use Rattle.fond_ast.specs.Solutions.{initial}
use Rattle.fond_task.specs.declared.task.Task.{Task}
use Rattle.fond_policy.specs.declared.cert.Cert.{Cert}
use Rattle.fond_state.specs.Traces.{by_remainder}
use Rattle.fond_succ.specs.Traces.{Trace}
use Rattle.fond_front.specs.Texts.{Texts}
use Rattle.fond_demo.specs.Words.{drawn_words}
use Rattle.fond_commands.specs.Certified.{CertReply, rules_of}
use Rattle.fond_commands.specs.Replies.{Reply, trace_reply}

-- what `simulate` answers to a certificate of a task with this ground task: the trace over the first words, as many as there
-- are steps, that are drawn from the seed
pub data AnswersSimulate (seed steps : ℕ) (task : LiftedTask) (game : Task) (read : Cert) : Reply → Type 0 where
  ran : (lines : List ℕ) (last : State) → Trace by_remainder task game (rules_of read) (initial task) (drawn_words seed steps) lines last → AnswersSimulate seed steps task game read (trace_reply task lines last)

-- what `simulate` replies for a seed and a number of steps: a refusal of its files, a rejection of the certificate's text, or the answer
-- to the certificate
abbrev pub SimulateReply : Texts → List ℕ → ℕ → ℕ → Reply → Type 0
SimulateReply texts cert seed steps = CertReply texts cert (AnswersSimulate seed steps)
