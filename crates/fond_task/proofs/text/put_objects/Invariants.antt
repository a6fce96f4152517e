use Rattle.std.proofs.Common.{drop, codes, ◌++◌}
use Rattle.std.specs.List.{flat_map}
use Rattle.fond_text.proofs.Outs.{Adding}
use Rattle.fond_task.specs.Texts.{name_at}
use Rattle.fond_task.proofs.text.put_objects.Given as goal

abbrev pub invariant-loop-object : goal.invariant-loop-object
invariant-loop-object g l =
    Adding g.O.Out.adds l.initial.out l.out (flat_map (λ object. codes " " ++ name_at l.names object) l.object-items) (flat_map (λ object. codes " " ++ name_at l.names object) (drop l.object-index l.object-items))
