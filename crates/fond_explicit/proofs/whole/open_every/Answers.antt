use Rattle.fond_explicit.proofs.whole.open_every.Goals as goal

pub open_batch-requires-clause-space : goal.open_batch-requires-clause-space
open_batch-requires-clause-space c = (c.requires.space.0, c.batches.invariant.keeps c.requires.space.0 c.requires.space.1)

pub batches-preserved : goal.batches-preserved
batches-preserved c = record {
  keeps = λ from space. c.in_ok-has_room.ensures.keeps from (c.batches.invariant.keeps from space);
  few = c.in_ok-has_room.ensures.few;
  next_long = c.open_batch.ensures.next_long;
}

pub returns-then-not-has_room-clause-keeps : goal.returns-then-not-has_room-clause-keeps
returns-then-not-has_room-clause-keeps c = λ from space. c.in_ok-has_room.ensures.keeps from (c.batches.invariant.keeps from space)

pub returns-then-not-has_room-clause-past : goal.returns-then-not-has_room-clause-past
returns-then-not-has_room-clause-past c = λ _ from space. c.in_ok-has_room.ensures.past c.if-not-has_room.true from (c.batches.invariant.keeps from space)

pub returns-then-space-len-clause-keeps : goal.returns-then-space-len-clause-keeps
returns-then-space-len-clause-keeps c = λ from space. c.in_ok-has_room.ensures.keeps from (c.batches.invariant.keeps from space)
