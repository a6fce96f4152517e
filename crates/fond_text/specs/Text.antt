-- Texts that are written part by part: the text so far, or `None` if it is lost.
use Rattle.std.specs.Prelude.{◌≡◌, ◌⊎◌, ℕ, List, ◌++◌, Option, None, option_map}

-- a part was added at the end of a text that is not lost, or the text is lost now
abbrev pub Adds : Option (List ℕ) → Option (List ℕ) → List ℕ → Type 0
Adds before after part = (after ≡ option_map (λ text. text ++ part) before) ⊎ (after ≡ None)
