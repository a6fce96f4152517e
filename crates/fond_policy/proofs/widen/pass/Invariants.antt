use Rattle.std.proofs.Common.{◌≡◌, ℕ, ◌≤◌, ◌+◌, false, Some}
use Rattle.std.specs.Prelude.{slice_get, length}
use Rattle.fond_policy.specs.declared.item.Item.{Item}
use Rattle.fond_policy.specs.Items.{NeedsLiteral}
use Rattle.fond_policy.specs.Wider.{HaveWidened}
use Rattle.fond_policy.proofs.widen.pass.Given as goal

abbrev pub invariant-loop-done : goal.invariant-loop-done
invariant-loop-done g l = record {
  pad : l.pad ≡ length l.t.atoms;
  widened : HaveWidened l.t (g.R.Firsts.firsts l.rules) l.initial.items l.items l.changed;
  needed : l.changed ≡ false → (number : ℕ) (item : Item) (atom : ℕ) → length l.items ≤ number + l.done → slice_get l.items number ≡ Some item → NeedsLiteral l.t (g.R.Firsts.firsts l.rules) l.items number item atom;
}
