use Rattle.std.proofs.Common.{◌≡◌, ℕ, Some, sym, subst}
use Rattle.fond_kinds.specs.Tables.{number_of}
use Rattle.fond_kinds.proofs.Numbers.{declared_numbered}
use Rattle.fond_kinds.proofs.fault.is_cyclic.Goals as goal

pub is_own_ancestor-requires : goal.is_own_ancestor-requires
is_own_ancestor-requires c = subst (λ z. (number : ℕ) × (number_of c.args.table.now.types.now z ≡ Some number)) (sym c.bytes-then-is_first.ensures.value) (declared_numbered c.args.table.now.types.now c.args.i c.args.declared.now c.requires)
