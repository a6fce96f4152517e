use Rattle.std.proofs.Common.{List, Bool, subst}
use Rattle.fond_store.specs.Stores.{Adds}
use Rattle.fond_explicit.proofs.Runs.{begun_space}
use Rattle.fond_explicit.proofs.solve.begin.Goals as goal

pub returns-clause-space : goal.returns-clause-space
returns-clause-space c =
    let P : List (List Bool) → Type 0 = λ old. Adds old c.in_ok-first.first c.in_ok-add.field-0 c.add.new.self in
    begun_space c.args.t.now c.args.from.now c.requires c.in_ok-first.first c.in_ok-first.ensures c.in_ok-add.field-0 c.add.new.self (subst P c.new-states.ensures c.in_ok-add.ensures.ok) c.new.result c.new.ensures
