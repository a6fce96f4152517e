use Rattle.std.proofs.Common.{◌≡◌, ℕ, ◌<◌, ◌≤◌, Some, slice_get, get_or, length, true}
use Rattle.fond_task.specs.declared.task.Act.{Act}
use Rattle.fond_task.specs.Truth.{is_true}
use Rattle.fond_explicit.specs.Openings.{IsOpening}
use Rattle.fond_explicit.specs.Spaces.{HasMove}
use Rattle.fond_explicit.proofs.opening.open_acts.Given as goal

abbrev pub invariant-loop-act : goal.invariant-loop-act
invariant-loop-act l = record {
  next_long : length l.scratch.next ≡ length l.t.atoms;
  few : length l.space.states ≤ l.budget;
  opening : IsOpening l.t l.state l.fn.space l.space;
  done : (k : ℕ) (a : Act) → k < l.act-index → slice_get l.t.acts (get_or l.acts k 0) ≡ Some a → is_true l.state a.pre ≡ true → HasMove l.space.states l.space.moves l.fn.space.opened l.state a;
}
