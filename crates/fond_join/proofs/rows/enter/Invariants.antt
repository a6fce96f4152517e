use Rattle.std.proofs.Common.{◌<◌, ℕ, length}
use Rattle.fond_join.specs.declared.rows.TheConstants.{MOST_ROWED}
use Rattle.fond_join.specs.Rows.{AreNumbered, IsGrown, IsRowedAt}
use Rattle.fond_join.proofs.rows.enter.Given as goal

abbrev pub invariant-loop-position : goal.invariant-loop-position
invariant-loop-position l = record {
  numbered : AreNumbered l.rows.numbers l.rows.lists.items;
  grown : IsGrown l.initial.rows.numbers l.initial.rows.lists.items l.rows.numbers l.rows.lists.items;
  rowed : (position : ℕ) → position < l.position → (other : ℕ) → other < MOST_ROWED → other < length l.atom.objects → IsRowedAt l.rows.numbers l.rows.lists.items l.atom position other;
}
