use Rattle.fond_laws.proofs.Shortest.{shortest}
use Rattle.fond_laws.proofs.replies.shortest_are_rated.Goals as goal

pub returns : goal.returns
returns c = shortest
