use Rattle.std.proofs.lemmas.Result.{on_ok_weaker}
use Rattle.fond_weak.proofs.opening.open_node.Goals as goal

pub returns-clause-opened : goal.returns-clause-opened
returns-clause-opened c = on_ok_weaker c.try_acts.result (λ tried. record { open_ = c.requires.open_; tried = tried }) c.try_acts.ensures.tried
