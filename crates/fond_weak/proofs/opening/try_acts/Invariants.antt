use Rattle.std.proofs.Common.{◌≡◌, ◌<◌, ℕ, true, Some, length, slice_get, get_or}
use Rattle.fond_task.specs.declared.task.Act.{Act}
use Rattle.fond_task.specs.Truth.{is_true}
use Rattle.fond_weak.specs.Settings.{IsTreeIn}
use Rattle.fond_weak.specs.Trees.{IsMore, IsTried}
use Rattle.fond_weak.proofs.opening.try_acts.Given as goal

-- the candidates so far were tried
abbrev pub invariant-loop-act : goal.invariant-loop-act
invariant-loop-act l = record {
  next_long : length l.next ≡ length l.setting.task.now.atoms;
  tree : IsTreeIn l.setting l.tree;
  more : IsMore l.fn.tree.states l.tree.states;
  tried : (k : ℕ) (a : Act) → k < l.act-index → slice_get l.setting.task.now.acts (get_or l.acts k 0) ≡ Some a → is_true l.node.state a.pre ≡ true →
      IsTried l.setting.layers.now l.setting.pairs.now l.tree.states l.node.state (get_or l.acts k 0) a;
}
