use Rattle.std.proofs.Common.{ap, ℕ, ◌∙◌}
use Rattle.std.proofs.lemmas.List.{at_drop_all}
use Rattle.std.specs.List.{flat_map, enumerate_from}
use Rattle.fond_text.specs.declared.atom.Atom.{Atom}
use Rattle.fond_state.specs.Cubes.{literal_at}
use Rattle.fond_cert.specs.Printed.{atom_literal_text}
use Rattle.fond_text.proofs.Outs.{adds_same, adding_all, adding_more, adding_none}
use Rattle.fond_task.proofs.Written.{next_of}
use Rattle.fond_cert.proofs.Printed.{cube_text_is}
use Rattle.fond_cert.proofs.put.put_cube.Goals as goal

pub loop-i-init : goal.loop-i-init
loop-i-init g c = adding_all g.O.Out.adds (g.met.O.Out.adds_nothing _)

pub loop-i-preserved : goal.loop-i-preserved
loop-i-preserved g c =
    let text = λ (item : ℕ × Atom). atom_literal_text c.args.task.now.labels item.1 (literal_at c.args.cube.now item.0) in
    adding_more g.O.Out.adds g.met.O.Out.adds_then
    (next_of (λ atoms. flat_map text (enumerate_from c.loop-i.i atoms)) c.as_slice-atom-items.result.now c.loop-i.i c.atom-item.result c.loop-i-test.true c.atom-item.is)
    c.loop-i.invariant
    (adds_same g.O.Out.adds (ap (atom_literal_text c.args.task.now.labels c.atom-item.result) c.literal.ensures) c.put_literal.ensures)

pub returns : goal.returns
returns g c =
    let text = λ (item : ℕ × Atom). atom_literal_text c.args.task.now.labels item.1 (literal_at c.args.cube.now item.0) in
    adds_same g.O.Out.adds (ap (λ atoms. flat_map text (enumerate_from 0 atoms)) c.as_slice-atom-items.ensures ∙ cube_text_is c.args.task.now c.args.cube.now)
    (adding_none g.O.Out.adds (at_drop_all (λ atoms. flat_map text (enumerate_from c.loop-i.i atoms)) c.as_slice-atom-items.result.now c.loop-i.i c.loop-i-test.false) c.loop-i.invariant)
