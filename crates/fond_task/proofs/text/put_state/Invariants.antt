use Rattle.std.proofs.Common.{[], ◌++◌, drop}
use Rattle.std.specs.Prelude.{codes, if◌then◌else◌}
use Rattle.std.specs.List.{flat_map, enumerate_from}
use Rattle.fond_state.specs.Cubes.{truth_at}
use Rattle.fond_text.proofs.Outs.{Adding}
use Rattle.fond_task.specs.Texts.{atom_text}
use Rattle.fond_task.proofs.text.put_state.Given as goal

abbrev pub invariant-loop-i : goal.invariant-loop-i
invariant-loop-i g l =
    Adding g.O.Out.adds l.initial.out l.out (flat_map (λ item. if truth_at l.state item.0 then atom_text l.task.labels item.1 ++ codes "\n" else []) (enumerate_from 0 l.atom-items))
    (flat_map (λ item. if truth_at l.state item.0 then atom_text l.task.labels item.1 ++ codes "\n" else []) (enumerate_from l.i (drop l.i l.atom-items)))
