use Rattle.std.proofs.Common.{◌∷◌, [], List, Bool, ap, ◌∙◌, subst}
use Rattle.fond_explicit.proofs.Distinct.{nothing_in}
use Rattle.fond_store.specs.Stores.{Adds}
use Rattle.fond_weak.proofs.Found.{added}
use Rattle.fond_weak.proofs.grow.one_state.Goals as goal

pub returns : goal.returns
returns c =
    let first = c.in_ok-copy.field-0 in
    let P : List (List Bool) → Type 0 = λ old. Adds old first c.in_ok-add.field-0 c.add.new.self in
    added [] first c.in_ok-add.field-0 c.add.new.self (subst P c.new-states.ensures c.in_ok-add.ensures.ok) (nothing_in first) ∙ ap (λ (s : List Bool). s ∷ []) c.in_ok-copy.ensures
