use Rattle.std.proofs.Common.{sym, ◌∙◌}
use Rattle.fond_form.proofs.Values.{no_number}
use Rattle.fond_form.proofs.value.number.Goals as goal

pub returns-else-is_number : goal.returns-else-is_number
returns-else-is_number c = no_number _ _ _ c.word.ensures (sym c.is_number.ensures ∙ c.if-is_number.false)
