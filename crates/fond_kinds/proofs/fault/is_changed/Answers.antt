use Rattle.std.proofs.Common.{◌≡◌, ℕ, Some, sym, ap, ◌∙◌, subst}
use Rattle.std.specs.Prelude.{position}
use Rattle.fond_kinds.specs.Kinds.{declares}
use Rattle.fond_kinds.specs.Tables.{number_of}
use Rattle.fond_kinds.proofs.Numbers.{declared_numbered}
use Rattle.fond_kinds.proofs.Changes.{has_first}
use Rattle.fond_kinds.proofs.fault.is_changed.Goals as goal

pub first-requires : goal.first-requires
first-requires c = subst (λ z. (number : ℕ) × (number_of c.args.table.now.types.now z ≡ Some number)) (sym c.bytes.ensures.value) (declared_numbered c.args.table.now.types.now c.args.i c.args.declared.now c.requires)

pub unreachable-requires : goal.unreachable-requires
unreachable-requires c =
    has_first c.args.table.now.types.now c.args.i c.args.declared.now c.requires (sym c.is_passed_over.ensures ∙ c.if-is_passed_over.false)
    (sym (c.in-None.ensures ∙ ap (λ z. position (declares z) c.args.table.now.types.now) c.bytes.ensures.value))
