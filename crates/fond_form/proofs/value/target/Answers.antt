use Rattle.std.proofs.Common.{sym, ◌∙◌}
use Rattle.fond_form.proofs.Values.{no_target}
use Rattle.fond_form.proofs.value.target.Goals as goal

pub returns-else-is_target : goal.returns-else-is_target
returns-else-is_target c = no_target _ _ _ c.word.ensures (sym c.is_target.ensures ∙ c.if-is_target.false)
