use Rattle.std.proofs.Common.{sym, ap, ◌∙◌}
use Rattle.fond_join.specs.Fixed.{fixed_value}
use Rattle.fond_join.specs.Kept.{open_value}
use Rattle.fond_join.proofs.FixedValues.{told_by_form}
use Rattle.fond_join.proofs.PairedOff.{none_kept_if}
use Rattle.fond_join.proofs.matching.leaves_none.Goals as goal

pub returns-in-No-clause-none : goal.returns-in-No-clause-none
returns-in-No-clause-none c = λ e.
    let facts = c.args.facts.now in
    let pre = c.args.schema.now.pre in
    none_kept_if facts.task.now c.args.schema.now (fixed_value facts.bare.items pre) (ap (λ bare. fixed_value bare pre) (sym c.deref.ensures.value) ∙ sym c.fixed_value.ensures ∙ c.in-No.is)
    (told_by_form facts.bare.items (open_value facts.task.now) facts.bared pre)
