use Rattle.fond_types.proofs.PlaceLemmas.{HasSome}
use Rattle.fond_types.proofs.patterns.places_of.Given as goal

-- each variable so far has its first place
abbrev pub invariant-loop-i : goal.invariant-loop-i
invariant-loop-i l = HasSome l.terms l.places l.i
