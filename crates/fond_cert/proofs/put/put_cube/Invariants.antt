use Rattle.std.proofs.Common.{drop}
use Rattle.std.specs.List.{flat_map, enumerate_from}
use Rattle.fond_state.specs.Cubes.{literal_at}
use Rattle.fond_cert.specs.Printed.{atom_literal_text}
use Rattle.fond_text.proofs.Outs.{Adding}
use Rattle.fond_cert.proofs.put.put_cube.Given as goal

abbrev pub invariant-loop-i : goal.invariant-loop-i
invariant-loop-i g l =
    Adding g.O.Out.adds l.initial.out l.out
    (flat_map (λ item. atom_literal_text l.task.labels item.1 (literal_at l.cube item.0)) (enumerate_from 0 l.atom-items))
    (flat_map (λ item. atom_literal_text l.task.labels item.1 (literal_at l.cube item.0)) (enumerate_from l.i (drop l.i l.atom-items)))
