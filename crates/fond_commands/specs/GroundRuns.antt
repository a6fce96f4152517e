-- The end of a run in a ground task.
use Rattle.std.specs.Prelude.{◌≡◌, ℕ, List, ◌++◌, Bool, if◌then◌else◌}
use Rattle.fond_task.specs.declared.task.Task.{Task}
use Rattle.fond_task.specs.Texts.{state_text}
use Rattle.fond_task.specs.Truth.{is_true}
use Rattle.fond_task.specs.declared.rule.Rule.{Rule}
use Rattle.fond_state.specs.Traces.{Pick}
use Rattle.fond_exec.specs.Traces.{Trace}
use Rattle.fond_commands.specs.declared.status.Ending.{Ending}
use Rattle.fond_commands.specs.declared.status.Ending.TheVariants.{Done, Stopped}
use Rattle.fond_commands.specs.Replies.{Reply}

-- the ending of a trace
abbrev pub trace_ending : Bool → Ending
trace_ending is_goal = if is_goal then Done else Stopped

-- the lines of a trace and the state in which it ends, by the ground task
abbrev pub ground_reply : Task → List ℕ → List Bool → Reply
ground_reply game lines last = record { text = lines ++ state_text game last; ending = trace_ending (is_true last game.goal) }

-- a reply is that of the trace of rules over words
abbrev pub IsTraceReply : Pick → Task → List Rule → List ℕ → Reply → Type 0
IsTraceReply pick game rules words reply = (lines : List ℕ) × (last : List Bool) × Trace pick game rules game.init words lines last × (reply ≡ ground_reply game lines last)
