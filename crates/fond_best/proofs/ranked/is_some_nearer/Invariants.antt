use Rattle.fond_layers.proofs.Tried.{AllBefore}
use Rattle.fond_best.specs.Certificates.{IsNearer}
use Rattle.fond_best.proofs.ranked.is_some_nearer.Given as goal

-- none of the items so far is nearer
abbrev pub invariant-loop-number : goal.invariant-loop-number
invariant-loop-number l = AllBefore l.number-items (λ number. ¬ IsNearer l.items l.ranks l.bound number) l.number-index
