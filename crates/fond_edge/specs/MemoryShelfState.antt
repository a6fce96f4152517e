-- The state of a shelf in memory, and the effect of a fetch.
use Rattle.std.specs.Prelude.{ℕ, List, Bool, if◌then◌else◌}
use Rattle.fond_edge.specs.declared.shelf.ShelfFile.{ShelfFile}
use Rattle.fond_edge.specs.Calls.{one_more, is_listed}

-- the files, the numbers of the calls that fail, and the numbers of calls and of faults so far
pub record MemoryShelfState : Type 0 where
  pub files : List ShelfFile
  pub failing : List ℕ
  pub calls : ℕ
  pub faults : ℕ

-- whether the next fetch is one of those that fail
abbrev pub fails_next : MemoryShelfState → Bool
fails_next shelf = is_listed shelf.failing shelf.calls

-- the state after a fetch: one more call, and one more fault if the call is one of those that fail
abbrev pub after_fetch : MemoryShelfState → MemoryShelfState
after_fetch shelf = record {
  files = shelf.files;
  failing = shelf.failing;
  calls = one_more shelf.calls;
  faults = (if fails_next shelf then one_more shelf.faults else shelf.faults);
}
