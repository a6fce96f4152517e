use Rattle.std.proofs.Common.{◌≡◌, ◌++◌, ◌∷◌, map, drop}
use Rattle.fond_ast.specs.Conditions.{object_of}
use Rattle.fond_ground.proofs.table.ground_numbers.Given as goal

abbrev pub invariant-loop-term : goal.invariant-loop-term
invariant-loop-term l = l.numbers.items ++ map (object_of l.env) (drop l.term-index l.atom.terms) ≡ l.atom.predicate ∷ map (object_of l.env) l.atom.terms
