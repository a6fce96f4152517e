use Rattle.std.proofs.Common.{◌≡◌, ℕ, ◌<◌, Some, slice_get}
use Rattle.fond_task.specs.Texts.{name_at}
use Rattle.fond_succ.proofs.action.find_object.Given as goal

-- no object so far has the name
abbrev pub invariant-loop-object : goal.invariant-loop-object
invariant-loop-object l = (number object : ℕ) → number < l.object-index → slice_get l.object-items number ≡ Some object → name_at l.names object ≡ l.name → ⊥
