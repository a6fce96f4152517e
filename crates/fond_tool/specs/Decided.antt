-- The replies to what is decided about a ground task.
use Rattle.std.specs.Prelude.{ℕ}
use Rattle.fond_task.specs.declared.task.Task.{Task}
use Rattle.fond_cert.specs.Spellings.{spelling}
use Rattle.fond_policy.specs.declared.cert.Cert.{Cert}
use Rattle.fond_policy.specs.declared.cert.Cert.TheVariants.{Refusal}
use Rattle.fond_planner.specs.declared.decide.Decision.{Decision}
use Rattle.fond_planner.specs.declared.decide.Decision.TheVariants.{Certified, Undecided as IsUndecided}
use Rattle.fond_commands.specs.Replies.{Reply, undecided_reply}
use Rattle.fond_commands.specs.declared.status.Ending.{Ending}
use Rattle.fond_commands.specs.declared.status.Ending.TheVariants.{Done, Unsolvable}

-- the ending after a certificate is printed
abbrev pub cert_ending : Cert → Ending
cert_ending (Refusal layers) = Unsolvable
cert_ending policy = Done

-- the reply to a decision: the text of its certificate, or `undecided` with the budget
abbrev pub decision_reply : Task → ℕ → Decision → Reply
decision_reply game budget (Certified cert) = record { text = spelling game cert; ending = cert_ending cert }
decision_reply game budget IsUndecided = undecided_reply budget
