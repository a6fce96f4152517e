use Rattle.std.proofs.Common.{ap, ◌∙◌}
use Rattle.fond_join.specs.Tables.{is_entered}
use Rattle.fond_join.proofs.Tables.{none_entered}
use Rattle.fond_join.proofs.facts.no_entries.Goals as goal

pub returns-clause-empty : goal.returns-clause-empty
returns-clause-empty c predicate objects = ap (λ tables. is_entered tables predicate objects) c.loop.invariant ∙ none_entered c.loop.counter predicate objects
