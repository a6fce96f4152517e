use Rattle.fond_laws.proofs.Accepted.{migrated}
use Rattle.fond_laws.proofs.replies.migrated_are_accepted.Goals as goal

pub returns : goal.returns
returns c = migrated
