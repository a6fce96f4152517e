-- Replies: a text that is to be written, and the ending once it is.
use Rattle.std.specs.Prelude.{ℕ, List, [], ◌++◌, codes, if◌then◌else◌}
use Rattle.std.specs.Fmt.{decimal}
use Rattle.fond_text.specs.declared.fault.Fault.{Fault}
use Rattle.fond_text.specs.declared.place.FileKind.{FileKind}
use Rattle.fond_text.specs.declared.place.FileKind.TheVariants.{Domain, Problem, Side}
use Rattle.fond_ast.specs.declared.task.LiftedTask.{LiftedTask}
use Rattle.fond_ast.specs.States.{State}
use Rattle.fond_ast.specs.Truths.{holds}
use Rattle.fond_ground.specs.Texts.{state_text}
use Rattle.fond_commands.specs.declared.status.Ending.{Ending}
use Rattle.fond_commands.specs.declared.status.Ending.TheVariants.{Done, Refused, Rejected, Stopped, Undecided}

-- a text that is to be written, and the ending once it is
pub record Reply : Type 0 where
  pub text : List ℕ
  pub ending : Ending

-- the reply of one line
abbrev pub line_reply : List ℕ → Ending → Reply
line_reply line ending = record { text = line ++ codes "\n"; ending = ending }

-- the reply that more states are reachable than a number
abbrev pub undecided_reply : ℕ → Reply
undecided_reply number = line_reply (codes "undecided " ++ decimal number) Undecided

-- the word for a file
abbrev pub file_word : FileKind → List ℕ
file_word Domain = codes "domain"
file_word Problem = codes "problem"
file_word Side = codes "side"

-- the words for a file with a fault: `refused FILE LINE COLUMN CODE`
abbrev pub fault_words : Fault → List ℕ
fault_words fault = codes "refused " ++ file_word fault.file ++ codes " " ++ decimal fault.place.line ++ codes " " ++ decimal fault.place.column ++ codes " F" ++ decimal fault.code

-- the refusal of a file with a fault
abbrev pub fault_reply : Fault → Reply
fault_reply fault = line_reply (fault_words fault) Refused

-- the rejection of an action that names no ground action with fitting objects
abbrev pub action_reply : Reply
action_reply = line_reply (codes "rejected C3 at 0") Rejected

-- the rejection of a certificate with a code at a byte
abbrev pub cert_reply : ℕ → ℕ → Reply
cert_reply code byte = line_reply (codes "rejected C" ++ decimal code ++ codes " at " ++ decimal byte) Rejected

-- the rejection of a script at a byte
abbrev pub script_reply : ℕ → Reply
script_reply byte = line_reply (codes "rejected S1 at " ++ decimal byte) Rejected

-- the ending of a run: done in a state that is a goal, and otherwise stopped
abbrev pub run_ending : LiftedTask → State → Ending
run_ending task last = if holds last [] task.goal then Done else Stopped

-- the lines of a trace and the state in which it ends
abbrev pub trace_reply : LiftedTask → List ℕ → State → Reply
trace_reply task lines last = record { text = lines ++ state_text task last; ending = run_ending task last }
