-- How the tool ends.
use Rattle.std.proofs.Common.{◌≡◌, ℕ, Bool, true, false, List, ◌∙◌, refl, sym, ap, true≢false}
use Rattle.fond_edge.specs.Written.{Appended}
use Rattle.fond_commands.specs.declared.status.Ending.{Ending}
use Rattle.fond_commands.specs.declared.status.Ending.TheVariants.{Done, Unsolvable, Undecided, Refused, BadWords, ReadFault, Rejected, Stopped, NotSolution}
use Rattle.fond_commands.specs.declared.status.Status.{Status}
use Rattle.fond_commands.specs.declared.status.Status.TheVariants.{NoMemory}
use Rattle.fond_tool.specs.Ends.{ToolReply, Ends, Writes}
use Rattle.fond_commands.specs.Fetches.{Reads}
use Rattle.fond_commands.specs.Numbers.{status_of}
use Rattle.fond_commands.specs.Replies.{Reply}

-- how the tool ends once the whole text of a reply is written
pub ends_written : (words : List (List ℕ)) (reads : Reads) (writes : Writes) (reply : Reply) → ToolReply words reads reply → Appended writes.old writes.new reply.text → Ends words reads writes (status_of reply.ending)
ends_written words reads writes reply told appended = by reply.ending refl
  where
    by : (ending : Ending) → reply.ending ≡ ending → Ends words reads writes (status_of ending)
    by Done same = (reply, told, ap status_of (sym same), appended)
    by Unsolvable same = (reply, told, ap status_of (sym same), appended)
    by Undecided same = (reply, told, ap status_of (sym same), appended)
    by Refused same = (reply, told, ap status_of (sym same), appended)
    by BadWords same = (reply, told, ap status_of (sym same), appended)
    by ReadFault same = (reply, told, ap status_of (sym same), appended)
    by Rejected same = (reply, told, ap status_of (sym same), appended)
    by Stopped same = (reply, told, ap status_of (sym same), appended)
    by NotSolution same = (reply, told, ap status_of (sym same), appended)

-- whether a status is that of memory that ran out
abbrev is_want : Status → Bool
is_want NoMemory = true
is_want status = false

no_want : (ending : Ending) → is_want (status_of ending) ≡ false
no_want Done = refl
no_want Unsolvable = refl
no_want Undecided = refl
no_want Refused = refl
no_want BadWords = refl
no_want ReadFault = refl
no_want Rejected = refl
no_want Stopped = refl
no_want NotSolution = refl

-- no ending has the status of memory that ran out
pub has_memory : (ending : Ending) → ¬ status_of ending ≡ NoMemory
has_memory ending same = true≢false (sym (ap is_want same) ∙ no_want ending)
