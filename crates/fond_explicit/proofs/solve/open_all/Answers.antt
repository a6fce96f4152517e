use Rattle.fond_explicit.proofs.solve.open_all.Goals as goal

pub decide-requires-clause-space : goal.decide-requires-clause-space
decide-requires-clause-space c =
    let from = c.requires.space.0 in
    (from, c.in_ok-has_room.ensures.keeps from (c.batches.invariant.keeps from c.requires.space.1))

pub returns-in-Some : goal.returns-in-Some
returns-in-Some c = λ from space.
    let right = rw c.in-Some.is at c.in_ok-solved.ensures in
    right from c.args.budget (c.in_ok-has_room.ensures.keeps from (c.batches.invariant.keeps from space))

pub batches-preserved : goal.batches-preserved
batches-preserved c = record {
  keeps = λ from space. c.in_ok-has_room.ensures.keeps from (c.batches.invariant.keeps from space);
  few = c.in_ok-has_room.ensures.few;
  next_long = c.open_batch.ensures.next_long;
}

pub open_batch-requires-clause-space : goal.open_batch-requires-clause-space
open_batch-requires-clause-space c = (c.requires.space.0, c.batches.invariant.keeps c.requires.space.0 c.requires.space.1)

pub returns-then-not-has_room : goal.returns-then-not-has_room
returns-then-not-has_room c = λ from space. c.in_ok-has_room.ensures.past c.if-not-has_room.true from (c.batches.invariant.keeps from space)
