use Rattle.std.proofs.Common.{drop}
use Rattle.std.specs.List.{flat_map}
use Rattle.fond_text.proofs.Adding.{Adding}
use Rattle.fond_lasso.specs.Listing.{numbered_text}
use Rattle.fond_lasso.proofs.tell.put_listed.Given as goal

abbrev pub invariant-loop-number : goal.invariant-loop-number
invariant-loop-number l = Adding l.initial.text l.text (flat_map (numbered_text l.t l.states) l.numbers) (flat_map (numbered_text l.t l.states) (drop l.number-index l.numbers))
