-- The statuses of endings, and the numbers of statuses.
use Rattle.std.specs.Prelude.{ℕ}
use Rattle.fond_commands.specs.declared.status.Ending.{Ending}
use Rattle.fond_commands.specs.declared.status.Ending.TheVariants as ends
use Rattle.fond_commands.specs.declared.status.Status.{Status}
use Rattle.fond_commands.specs.declared.status.Status.TheVariants.{Done, Unsolvable, Undecided, Refused, BadWords, ReadFault, WriteFault, Rejected, Stopped, NoMemory, NotSolution}

-- the status of an ending
abbrev pub status_of : Ending → Status
status_of ends.Done = Done
status_of ends.Unsolvable = Unsolvable
status_of ends.Undecided = Undecided
status_of ends.Refused = Refused
status_of ends.BadWords = BadWords
status_of ends.ReadFault = ReadFault
status_of ends.Rejected = Rejected
status_of ends.Stopped = Stopped
status_of ends.NotSolution = NotSolution

-- the number with which the program ends
abbrev pub number_of : Status → ℕ
number_of Done = 0
number_of Unsolvable = 1
number_of Undecided = 2
number_of Refused = 3
number_of BadWords = 4
number_of ReadFault = 5
number_of WriteFault = 6
number_of Rejected = 7
number_of Stopped = 8
number_of NoMemory = 9
number_of NotSolution = 10
