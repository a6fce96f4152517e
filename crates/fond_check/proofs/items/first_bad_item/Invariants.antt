use Rattle.std.proofs.Common.{◌≡◌, length}
use Rattle.fond_policy.specs.Items.{IsSureItem}
use Rattle.fond_policy.proofs.Beginning.{Before}
use Rattle.fond_check.proofs.items.first_bad_item.Given as goal

-- the items so far are sure
abbrev pub invariant-loop-at : goal.invariant-loop-at
invariant-loop-at l = record {
  pad : l.pad ≡ length l.t.atoms;
  sure : Before l.items (λ n item. IsSureItem l.t l.conditions l.items item) l.at;
}
