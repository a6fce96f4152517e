use Rattle.fond_commands.specs.Successors.{AnswersNames}
use Rattle.fond_commands.proofs.succ.named_successors.Goals as goal

pub returns-in_default-clause-rejected : goal.returns-in_default-clause-rejected
returns-in_default-clause-rejected c = AnswersNames.unknown (rw c.in_default.is at c.in_ok-named.ensures)

pub returns-clause-replied : goal.returns-clause-replied
returns-clause-replied c = AnswersNames.named c.in-Some.named c.in_ok-successors.field-0 (rw c.in-Some.is at c.in_ok-named.ensures) c.in_ok-successors.ensures
