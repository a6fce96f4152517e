-- What the tool replies to the words of a command line, and how it ends.
use Rattle.std.specs.Prelude.{ℕ, List, Option, codes, ◌≡◌}
use Rattle.fond_edge.specs.Faults.{Rose}
use Rattle.fond_edge.specs.Written.{Appended, AppendedPart}
use Rattle.fond_commands.specs.declared.status.Status.{Status}
use Rattle.fond_commands.specs.declared.status.Status.TheVariants.{WriteFault, NoMemory}
use Rattle.fond_commands.specs.declared.status.Ending.TheVariants.{BadWords, ReadFault}
use Rattle.fond_commands.specs.declared.words.Job.{Job}
use Rattle.fond_tool.specs.Jobs.{JobReply}
use Rattle.fond_commands.specs.Fetches.{Reads, AreContents, CannotRead}
use Rattle.fond_commands.specs.Replies.{Reply, line_reply}
use Rattle.fond_commands.specs.Numbers.{status_of}
use Rattle.fond_commands.specs.Words.{AskFor, AskForNone}

-- what the tool replies to words: `bad words` if they ask for no job; `read fault`, only if the shelf met a fault or does not
-- hold one of the files of the job; or what the job replies to the contents of its files
pub data ToolReply (words : List (List ℕ)) (reads : Reads) : Reply → Type 0 where
  bad_words : AskForNone words → ToolReply words reads (line_reply (codes "bad words") BadWords)
  read_fault : (job : Job) (names : List (List ℕ)) → AskFor words job names → CannotRead reads names → ToolReply words reads (line_reply (codes "read fault") ReadFault)
  replied : (job : Job) (names contents : List (List ℕ)) (reply : Reply) → AskFor words job names → AreContents reads.held names contents → JobReply job contents reply → ToolReply words reads reply

-- the use of a sink: what it holds before and after, if it tells, and the count of its faults before and after
pub record Writes : Type 0 where
  pub old : Option (List ℕ)
  pub new : Option (List ℕ)
  pub before : ℕ
  pub after : ℕ

-- how the tool ends: with status 9 nothing was written; with status 6 the sink met a fault, and a proper prefix of the
-- text of a reply to the words was written; with any other status the whole text of such a reply was written, and the status is
-- that of its ending
abbrev pub Ends : List (List ℕ) → Reads → Writes → Status → Type 0
Ends words reads writes NoMemory = writes.new ≡ writes.old
Ends words reads writes WriteFault = Rose writes.before writes.after × ((reply : Reply) × ToolReply words reads reply × AppendedPart writes.old writes.new reply.text)
Ends words reads writes status = (reply : Reply) × ToolReply words reads reply × (status ≡ status_of reply.ending) × Appended writes.old writes.new reply.text
