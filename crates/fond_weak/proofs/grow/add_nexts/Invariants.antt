use Rattle.std.proofs.Common.{◌≡◌, ◌<◌, ℕ, List, Some, length, slice_get}
use Rattle.std.specs.Prelude.{Contains}
use Rattle.fond_task.specs.declared.task.Act.{Act}
use Rattle.fond_task.specs.declared.task.Entry.{Entry}
use Rattle.fond_task.specs.Steps.{next_state}
use Rattle.fond_weak.specs.Settings.{IsTreeIn}
use Rattle.fond_weak.specs.Trees.{IsMore}
use Rattle.fond_weak.proofs.grow.add_nexts.Given as goal

-- the states to which the outcomes so far lead are found
abbrev pub invariant-loop-outcome : goal.invariant-loop-outcome
invariant-loop-outcome l = record {
  next_long : length l.next ≡ length l.setting.task.now.atoms;
  tree : IsTreeIn l.setting l.tree;
  more : IsMore l.fn.tree.states l.tree.states;
  stays : (a : Act) (number : ℕ) (entries : List Entry) → slice_get l.setting.task.now.acts l.act ≡ Some a → number < l.outcome → slice_get a.outcomes number ≡ Some entries → Contains l.tree.states (next_state l.node.state entries);
}
