use Rattle.std.proofs.Common.{◌≡◌, ◌≤◌, ◌-◌, ◌^◌, length}
use Rattle.fond_weak.specs.Settings.{IsTreeIn}
use Rattle.fond_weak.specs.Trees.{AreOpened}
use Rattle.fond_weak.proofs.breadth.open_all.Given as goal

-- the states of smaller numbers are opened
abbrev pub invariant-loop-at : goal.invariant-loop-at
invariant-loop-at l = record {
  next_long : length l.scratch.next ≡ length l.setting.task.now.atoms;
  tree : IsTreeIn l.setting l.tree;
  within : l.at ≤ length l.tree.states;
  opened : AreOpened l.setting.task.now l.setting.layers.now l.setting.pairs.now l.tree.states l.at;
}

abbrev pub decreases-loop-at : goal.decreases-loop-at
decreases-loop-at l = 2 ^ 32 - l.at
