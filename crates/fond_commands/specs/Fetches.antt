-- Fetching files: their contents, and why one could not be read.
use Rattle.std.specs.Prelude.{◌≡◌, ◌⊎◌, ℕ, List, Contains, Option, Some, None, IfSome, IsSomeAnd}
use Rattle.std.specs.List.{AllZip}
use Rattle.fond_edge.specs.declared.shelf.ShelfFile.{ShelfFile}
use Rattle.fond_edge.specs.Faults.{Rose}
use Rattle.fond_edge.specs.Files.{file_of}

-- the use of a shelf: the files that it holds, if it lists them, and the count of its faults before and after
pub record Reads : Type 0 where
  pub held : Option (List ShelfFile)
  pub before : ℕ
  pub after : ℕ

-- a file has a content: the one that the shelf holds, if it lists its files
abbrev pub IsContent : Option (List ShelfFile) → List ℕ → List ℕ → Type 0
IsContent held name bytes = IfSome held (λ files. file_of files name ≡ Some bytes)

-- files have contents, place by place
abbrev pub AreContents : Option (List ShelfFile) → List (List ℕ) → List (List ℕ) → Type 0
AreContents held = AllZip (IsContent held)

-- a file is not held by a shelf that lists its files
abbrev pub IsMissing : Option (List ShelfFile) → List ℕ → Type 0
IsMissing held name = IsSomeAnd held (λ files. file_of files name ≡ None)

-- why some of these files were not read: the shelf met a fault, or it lists its files and holds none of one of the names
abbrev pub CannotRead : Reads → List (List ℕ) → Type 0
CannotRead reads names = Rose reads.before reads.after ⊎ ((name : List ℕ) × Contains names name × IsMissing reads.held name)
