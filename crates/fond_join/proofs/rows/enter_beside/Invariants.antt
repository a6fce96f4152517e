use Rattle.std.proofs.Common.{◌<◌, ℕ}
use Rattle.fond_join.specs.Rows.{AreNumbered, IsGrown, IsRowedAt}
use Rattle.fond_join.proofs.rows.enter_beside.Given as goal

abbrev pub invariant-loop-other : goal.invariant-loop-other
invariant-loop-other l = record {
  numbered : AreNumbered l.rows.numbers l.rows.lists.items;
  grown : IsGrown l.initial.rows.numbers l.initial.rows.lists.items l.rows.numbers l.rows.lists.items;
  rowed : (other : ℕ) → other < l.other → IsRowedAt l.rows.numbers l.rows.lists.items l.atom l.position other;
}
