use Rattle.std.proofs.Common.{subst, List, Bool}
use Rattle.indexmap.specs.IndexMap.{keys}
use Rattle.fond_text.specs.Lists.{AreDistinct}
use Rattle.fond_store.proofs.Kept.{are_distinct}
use Rattle.fond_store.proofs.store.Store.len.Goals as goal

pub returns-clause-distinct : goal.returns-clause-distinct
returns-clause-distinct c =
    let P : List (List Bool) → Type 0 = λ states. AreDistinct states in
    subst P c.self.view_is (are_distinct (keys c.self.inside.states) c.len.ensures.unique)
