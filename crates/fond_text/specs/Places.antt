-- Places in a text, and their order.
use Rattle.std.specs.Prelude.{◌≡◌, ◌⊎◌, ℕ, ◌+◌, ◌<◌, ◌==◌, List, length, count_by}
use Rattle.std.specs.List.{after_last}
use Rattle.fond_text.specs.declared.place.Place.{Place}
use Rattle.fond_text.specs.Bytes.{line_feed}

-- the place of the byte that follows these bytes: its line is 1 more than the line feeds among them, and its
-- column 1 more than the bytes since the last line feed
abbrev pub place_after : List ℕ → Place
place_after before = record {
  line = 1 + count_by (λ b. b == line_feed) before;
  column = 1 + length (after_last (λ b. b == line_feed) before);
}

-- one place comes before another in a text: on an earlier line, or on the same line in an earlier column
abbrev pub IsBefore : Place → Place → Type 0
IsBefore place other = (place.line < other.line) ⊎ ((place.line ≡ other.line) × (place.column < other.column))
