use Rattle.std.proofs.Common.{drop, codes, ◌++◌}
use Rattle.std.specs.Fmt.{decimal}
use Rattle.std.specs.List.{flat_map}
use Rattle.fond_text.proofs.Adding.{Adding}
use Rattle.fond_lasso.proofs.tell.put_numbers.Given as goal

abbrev pub invariant-loop-number : goal.invariant-loop-number
invariant-loop-number l = Adding l.initial.text l.text (flat_map (λ number. codes " " ++ decimal number) l.numbers) (flat_map (λ number. codes " " ++ decimal number) (drop l.number-index l.numbers))
