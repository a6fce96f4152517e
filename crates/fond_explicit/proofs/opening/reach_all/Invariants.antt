use Rattle.std.proofs.Common.{◌≡◌, ◌≤◌, Some, slice_get, take, length}
use Rattle.fond_task.specs.declared.task.Act.{Act}
use Rattle.fond_explicit.specs.Openings.{IsGrown}
use Rattle.fond_explicit.specs.Spaces.{AreNexts}
use Rattle.fond_explicit.proofs.opening.reach_all.Given as goal

abbrev pub invariant-loop-outcome : goal.invariant-loop-outcome
invariant-loop-outcome l = record {
  next_long : length l.scratch.next ≡ length l.t.atoms;
  few : length l.states ≤ l.budget;
  grown : IsGrown l.t l.state l.fn.states l.states;
  nexts : (a : Act) → slice_get l.t.acts l.act ≡ Some a → AreNexts l.states l.state l.scratch.targets.items (take l.outcome a.outcomes);
}
