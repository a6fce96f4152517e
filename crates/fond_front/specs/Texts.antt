-- The texts from which a task is read.
use Rattle.std.specs.Prelude.{ℕ, List}

-- the texts of a domain, a problem and a side list
pub record Texts : Type 0 where
  pub domain : List ℕ
  pub problem : List ℕ
  pub side : List ℕ
