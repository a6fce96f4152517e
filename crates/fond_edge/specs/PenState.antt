-- The state of a pen.
use Rattle.std.specs.Prelude.{ℕ, List, Bool}

-- a pen: the bytes that a later write is to write, and whether a write has failed
pub record PenState : Type 0 where
  pub pending : List ℕ
  pub failed : Bool
