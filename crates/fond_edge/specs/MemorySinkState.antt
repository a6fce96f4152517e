-- The state of a sink in memory, and the effect of a write.
use Rattle.std.specs.Prelude.{ℕ, ◌-◌, min, nat_lt, nat_le, ◌&&◌, ◌||◌, List, ◌++◌, length, take, Bool, if◌then◌else◌}
use Rattle.fond_edge.specs.Calls.{one_more, is_listed}

-- the bytes written, the room for bytes in all, the most bytes of one write, the numbers of the calls that fail,
-- and the numbers of calls and of faults so far
pub record MemorySinkState : Type 0 where
  pub written : List ℕ
  pub room : ℕ
  pub piece : ℕ
  pub failing : List ℕ
  pub calls : ℕ
  pub faults : ℕ

-- whether a write of these bytes fails: its call is one of those that fail, or it has bytes and no room is left
abbrev pub refuses : MemorySinkState → List ℕ → Bool
refuses sink bytes =
    is_listed sink.failing sink.calls || (nat_lt 0 (length bytes) && nat_le sink.room (length sink.written))

-- the number of bytes that a write takes: as many as fit into one piece and into the remaining room
abbrev pub taken : MemorySinkState → List ℕ → ℕ
taken sink bytes = min (length bytes) (min sink.piece (sink.room - length sink.written))

-- the state after a write: one more call, and either one more fault or the bytes that were taken
abbrev pub after_write : MemorySinkState → List ℕ → MemorySinkState
after_write sink bytes = record {
  written = (if refuses sink bytes then sink.written else sink.written ++ take (taken sink bytes) bytes);
  room = sink.room;
  piece = sink.piece;
  failing = sink.failing;
  calls = one_more sink.calls;
  faults = (if refuses sink bytes then one_more sink.faults else sink.faults);
}
