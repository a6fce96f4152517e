use Rattle.std.proofs.Common.{◌≡◌, ◌++◌, map, drop}
use Rattle.std.specs.Prelude.{option_map}
use Rattle.fond_join.specs.Partial.{all_known, known_object}
use Rattle.fond_join.proofs.value.put_objects.Given as goal

abbrev pub invariant-loop-term : goal.invariant-loop-term
invariant-loop-term l = record {
  same : l.scope.env.items ≡ l.initial.scope.env.items;
  left : option_map (λ rest. l.scope.key.items ++ rest) (all_known (map (known_object l.initial.scope.env.items) (drop l.term-index l.terms)))
      ≡ all_known (map (known_object l.initial.scope.env.items) l.terms);
}
