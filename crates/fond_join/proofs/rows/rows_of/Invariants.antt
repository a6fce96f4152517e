use Rattle.std.proofs.Common.{◌≡◌, ◌<◌, ℕ, Some, slice_get}
use Rattle.fond_text.specs.declared.atom.Atom.{Atom}
use Rattle.fond_join.specs.Rows.{AreNumbered, IsRowed}
use Rattle.fond_join.proofs.rows.rows_of.Given as goal

abbrev pub invariant-loop-atom : goal.invariant-loop-atom
invariant-loop-atom l = record {
  numbered : AreNumbered l.rows.numbers l.rows.lists.items;
  rowed : (k : ℕ) → k < l.atom-index → (atom : Atom) → slice_get l.atoms k ≡ Some atom → IsRowed l.rows.numbers l.rows.lists.items atom;
}
