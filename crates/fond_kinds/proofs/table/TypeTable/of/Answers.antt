use Rattle.std.proofs.Common.{◌≡◌, ℕ, List, Some, None, length, sym, ap, ◌∙◌, subst}
use Rattle.std.specs.Prelude.{position, slice_index_or}
use Rattle.fond_kinds.specs.Kinds.{declares}
use Rattle.fond_kinds.specs.Tables.{number_of}
use Rattle.fond_kinds.proofs.table.TypeTable.of.Goals as goal

pub ancestry_of-requires-clause-declared : goal.ancestry_of-requires-clause-declared
ancestry_of-requires-clause-declared c =
    subst (λ z. (name : List ℕ) (number : ℕ) → number_of c.args.types.now name ≡ Some number → slice_index_or z number None ≡ position (declares name) c.args.types.now)
    (sym c.deref.ensures.value) c.in_ok-firsts.ensures.declared

pub ancestry_of-requires-clause-over : goal.ancestry_of-requires-clause-over
ancestry_of-requires-clause-over c = ap length c.deref.ensures.value ∙ c.in_ok-firsts.ensures.over
