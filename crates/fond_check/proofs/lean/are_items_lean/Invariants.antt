use Rattle.std.proofs.Common.{◌≡◌, length}
use Rattle.fond_policy.specs.Items.{IsLeanItem}
use Rattle.fond_policy.proofs.Beginning.{Before}
use Rattle.fond_check.proofs.lean.are_items_lean.Given as goal

-- the items so far are lean
abbrev pub invariant-loop-at : goal.invariant-loop-at
invariant-loop-at l = record {
  pad : l.pad ≡ length l.t.atoms;
  lean : Before l.items (λ n item. IsLeanItem l.t l.conditions l.items n item) l.at;
}
