use Rattle.std.proofs.Common.{◌+◌, refl, arith}
use Rattle.std.specs.Prelude.{slice_index_or}
use Rattle.fond_matrix.proofs.Bits.{or_none, or_and_none, bits_added, shared_added}
use Rattle.fond_matrix.proofs.words.add_twice.Goals as goal

pub loop-i-init : goal.loop-i-init
loop-i-init c = record {
  long = (refl, refl);
  done = λ k lt. or_none (slice_index_or c.args.once.now k 0) (slice_index_or c.args.row.now (c.args.start + k) 0) (c.requires.skip (c.args.start + k) (omega (arith, lt, c.saturating_sub-i.ensures)));
  also = λ k lt. or_and_none (slice_index_or c.args.twice.now k 0) (slice_index_or c.args.once.now k 0) (slice_index_or c.args.row.now (c.args.start + k) 0) (c.requires.skip (c.args.start + k) (omega (arith, lt, c.saturating_sub-i.ensures)));
  rest = λ k _. refl;
  left = λ k _. refl;
}

pub returns-clause-once : goal.returns-clause-once
returns-clause-once c = bits_added c.loop-i.once c.args.once.now c.args.row.now c.args.start c.args.count c.loop-i.i
    (omega (arith, c.loop-i-test.false, c.loop-i.auto.i-end, c.min-i-end.ensures, c.saturating_sub.ensures)) c.loop-i.invariant.done c.loop-i.invariant.rest

pub returns-clause-twice : goal.returns-clause-twice
returns-clause-twice c = shared_added c.loop-i.twice c.args.twice.now c.args.once.now c.args.row.now c.args.start c.args.count c.loop-i.i
    (omega (arith, c.loop-i-test.false, c.loop-i.auto.i-end, c.min-i-end.ensures, c.saturating_sub.ensures)) c.loop-i.invariant.also c.loop-i.invariant.left
