use Rattle.std.proofs.Common.{◌≡◌, ◌≤◌, take}
use Rattle.fond_commands.specs.Fetches.{AreContents}
use Rattle.fond_commands.proofs.fetch.fetch_all.Given as goal

abbrev pub invariant-loop-name : goal.invariant-loop-name
invariant-loop-name g l = record {
  fetched : AreContents (g.S.Shelf.held l.initial.shelf) (take l.name-index l.names) l.contents;
  kept : g.S.Shelf.held l.shelf ≡ g.S.Shelf.held l.initial.shelf;
  counted : g.S.Shelf.faults l.initial.shelf ≤ g.S.Shelf.faults l.shelf;
}
