-- Traces that get stuck.
use Rattle.std.specs.Prelude.{ℕ, List, ⊤}
use Rattle.fond_ast.specs.declared.task.LiftedTask.{LiftedTask}
use Rattle.fond_ast.specs.States.{State}
use Rattle.fond_task.specs.declared.task.Task.{Task}
use Rattle.fond_task.specs.declared.rule.Rule.{Rule}
use Rattle.fond_state.specs.Traces.{Pick, TraceOf}
use Rattle.fond_succ.specs.Traces.{Trace}

-- a trace ends with the line `stuck`: in a state that is no goal, with a word left, no applicable action is chosen
abbrev pub EndsStuck : {pick : Pick} {task : LiftedTask} {game : Task} {rules : List Rule} {state : State} {words lines : List ℕ} {last : State} → Trace pick task game rules state words lines last → Type 0
EndsStuck (TraceOf.goal state words is) = ⊥
EndsStuck (TraceOf.ended state open_) = ⊥
EndsStuck (TraceOf.stuck state word left open_ none) = ⊤
EndsStuck (TraceOf.bad_outcome state word left choice open_ chosen over) = ⊥
EndsStuck (TraceOf.took state word left choice line next text last open_ chosen leads later) = EndsStuck later
