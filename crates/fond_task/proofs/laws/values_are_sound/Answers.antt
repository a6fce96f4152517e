use Rattle.std.proofs.Common.{subst}
use Rattle.fond_task.proofs.Tells.{Tells, Tells-value}
use Rattle.fond_task.specs.declared.form.Kleene.{Kleene}
use Rattle.fond_task.specs.Truth.{is_true}
use Rattle.fond_task.proofs.laws.values_are_sound.Goals as goal

pub returns-clause-yes : goal.returns-clause-yes
returns-clause-yes c = λ state cube form lies is. let P : Kleene → Type 0 = λ a. Tells a (is_true state form) in subst P is (Tells-value state cube lies form)

pub returns-clause-no : goal.returns-clause-no
returns-clause-no c = λ state cube form lies is. let P : Kleene → Type 0 = λ a. Tells a (is_true state form) in subst P is (Tells-value state cube lies form)
