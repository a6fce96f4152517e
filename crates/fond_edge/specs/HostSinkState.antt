-- The state of a sink over a writer.
use Rattle.std.specs.Prelude.{ℕ, List, Option}

-- the contents of the writer, if it can tell them, and the number of faults
pub record HostSinkState : Type 0 where
  pub contents : Option (List ℕ)
  pub faults : ℕ
