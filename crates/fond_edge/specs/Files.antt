-- The files that a shelf holds.
use Rattle.std.specs.Prelude.{ℕ, List, Option, option_map, find}
use Rattle.std.specs.Str.{bytes_eq}
use Rattle.fond_edge.specs.declared.shelf.ShelfFile.{ShelfFile}

-- the content of the first file of this name, if there is one
abbrev pub file_of : List ShelfFile → List ℕ → Option (List ℕ)
file_of files name = option_map (λ f. f.bytes) (find (λ f. bytes_eq f.name name) files)
