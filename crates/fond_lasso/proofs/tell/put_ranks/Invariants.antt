use Rattle.std.proofs.Common.{drop}
use Rattle.fond_text.proofs.Adding.{Adding}
use Rattle.fond_lasso.specs.Listing.{levels_text}
use Rattle.fond_lasso.proofs.tell.put_ranks.Given as goal

abbrev pub invariant-loop-i : goal.invariant-loop-i
invariant-loop-i l = Adding l.initial.text l.text (levels_text l.t l.states l.levels) (levels_text l.t (drop l.i l.states) (drop l.i l.levels))
