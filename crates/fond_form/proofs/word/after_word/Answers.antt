use Rattle.std.proofs.Common.{sym, ◌∙◌}
use Rattle.fond_form.proofs.Cuts.{no_word}
use Rattle.fond_form.proofs.word.after_word.Goals as goal

pub returns-else-is_of : goal.returns-else-is_of
returns-else-is_of c = no_word _ _ _ _ _ c.in_ok-after.ensures c.word.ensures (sym c.is_of.ensures ∙ c.if-is_of.false)
