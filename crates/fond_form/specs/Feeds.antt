-- Lines by their line feeds.
use Rattle.std.specs.Prelude.{ℕ, ◌==◌, not, Bool, List, IsTrue}
use Rattle.std.specs.List.{list_all}

-- whether a byte may occur in a line: it is no line feed
abbrev pub is_in_line : ℕ → Bool
is_in_line b = not (b == 10)

-- a text has no line feed
abbrev pub HasNoFeed : List ℕ → Type 0
HasNoFeed text = IsTrue (list_all is_in_line text)
