use Rattle.std.proofs.Common.{◌≡◌, drop}
use Rattle.fond_edge.specs.Files.{file_of}
use Rattle.fond_edge.proofs.lists.find.Given as goal

abbrev pub invariant-loop-file : goal.invariant-loop-file
invariant-loop-file l = file_of (drop l.file-index l.file-items) l.name ≡ file_of l.file-items l.name
