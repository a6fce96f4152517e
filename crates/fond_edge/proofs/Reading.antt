-- How far a loop has come that reads a file.
use Rattle.std.proofs.Common.{◌≡◌, ℕ, ◌+◌, ◌^◌, List, ◌++◌, length, Option}
use Rattle.std.specs.Io.KnownBytes.{Consumes}

-- a front of the file was appended to the old bytes, and so many more bytes may come
pub record Reading (start now : Option (List ℕ)) (old into : List ℕ) (left : ℕ) : Type 0 where
  pub more : List ℕ
  pub grown : into ≡ old ++ more
  pub counted : length more + left ≡ 2 ^ 48
  pub consumed : Consumes start now more
