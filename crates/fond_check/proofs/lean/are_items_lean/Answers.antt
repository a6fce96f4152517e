use Rattle.std.proofs.Common.{refl, arith}
use Rattle.std.proofs.lemmas.Bool.{false≢true}
use Rattle.fond_policy.specs.Items.{IsLeanItem}
use Rattle.fond_policy.proofs.Beginning.{before_all, element_at}
use Rattle.fond_check.proofs.lean.are_items_lean.Goals as goal

pub returns-then-not-lean_item-clause-decides : goal.returns-then-not-lean_item-clause-decides
returns-then-not-lean_item-clause-decides c =
    let at = c.loop-at.at in
    let there = element_at c.args.items.now at (omega arith) in
    let told = c.if-not-lean_item.ensures.decides there.0 there.1 in
    (λ e. absurd (false≢true e), λ all. told.1 (all at there.0 there.1))

pub returns-clause-decides : goal.returns-clause-decides
returns-clause-decides c = (
  λ e.
      let items = c.args.items.now in
      before_all items (λ n item. IsLeanItem c.args.t.now c.args.conditions.now items n item) c.loop-at.at (omega arith) c.loop-at.invariant.lean,
  λ all. refl,
)
