use Rattle.std.proofs.Common.{◌≡◌, ℕ, Some, sym, subst}
use Rattle.fond_kinds.specs.Tables.{number_of}
use Rattle.fond_kinds.proofs.Numbers.{declared_numbered}
use Rattle.fond_kinds.proofs.fault.is_first.Goals as goal

pub first-requires : goal.first-requires
first-requires c = subst (λ z. (number : ℕ) × (number_of c.args.table.now.types.now z ≡ Some number)) (sym c.bytes.ensures.value) (declared_numbered c.args.table.now.types.now c.args.i c.args.declared.now c.requires)
