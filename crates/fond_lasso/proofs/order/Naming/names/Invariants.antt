use Rattle.std.proofs.Common.{◌≡◌, length, take}
use Rattle.fond_lasso.specs.Ordered.{AreNamed, IsNaming}
use Rattle.fond_lasso.proofs.order.Naming.names.Given as goal

abbrev pub invariant-loop-number : goal.invariant-loop-number
invariant-loop-number l = record {
  long : length l.self.table.items ≡ length l.initial.self.table.items;
  naming : IsNaming l.self.table.items l.self.used.items;
  named : AreNamed l.initial.self.used.items (take l.number-index l.numbers) l.names.items l.self.used.items;
}
