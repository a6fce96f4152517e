-- What was written to a sink; `None` if the sink cannot tell.
use Rattle.std.specs.Prelude.{◌≡◌, ℕ, ◌<◌, List, ◌++◌, length, take, Option, option_map}

-- the new text is the old one followed by these bytes, or neither can be told
abbrev pub Appended : Option (List ℕ) → Option (List ℕ) → List ℕ → Type 0
Appended old new bytes = new ≡ option_map (λ written. written ++ bytes) old

-- the new text is the old one followed by a proper prefix of these bytes, or neither can be told
pub record AppendedPart (old new : Option (List ℕ)) (bytes : List ℕ) : Type 0 where
  pub count : ℕ
  pub proper : count < length bytes
  pub appended : Appended old new (take count bytes)
