use Rattle.fond_store.proofs.Firsts.{HasFirsts}
use Rattle.fond_names.proofs.index.index_variables.Given as goal

-- the index has the first position of each name so far
abbrev pub invariant-loop-i : goal.invariant-loop-i
invariant-loop-i l = HasFirsts (λ name. name.name) l.names l.index l.i
