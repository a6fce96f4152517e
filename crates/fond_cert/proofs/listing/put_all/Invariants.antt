use Rattle.std.proofs.Common.{drop}
use Rattle.std.specs.List.{flat_map}
use Rattle.fond_text.proofs.Outs.{Adding}
use Rattle.fond_cert.proofs.listing.put_all.Given as goal

abbrev pub invariant-loop-i : goal.invariant-loop-i
invariant-loop-i g l =
    Adding g.O.Out.adds l.initial.out l.out
    (flat_map (g.L.Listing.text l.task) (g.L.Listing.items l.list))
    (flat_map (g.L.Listing.text l.task) (drop l.i (g.L.Listing.items l.list)))
