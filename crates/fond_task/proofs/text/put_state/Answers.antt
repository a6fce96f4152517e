use Rattle.std.proofs.Common.{ℕ, Bool, List, [], ◌++◌, ap}
use Rattle.std.specs.Prelude.{codes, if◌then◌else◌}
use Rattle.std.specs.List.{flat_map, enumerate_from}
use Rattle.fond_state.specs.Cubes.{truth_at}
use Rattle.fond_text.proofs.Outs.{adds_same, adding_all, adding_more, adding_none}
use Rattle.fond_text.specs.declared.atom.Atom.{Atom}
use Rattle.fond_task.specs.Texts.{atom_text}
use Rattle.std.proofs.lemmas.List.{at_drop_all}
use Rattle.fond_task.proofs.Written.{next_of}
use Rattle.fond_task.proofs.text.put_state.Goals as goal

pub loop-i-init : goal.loop-i-init
loop-i-init g c = adding_all g.O.Out.adds (g.met.O.Out.adds_nothing _)

pub loop-i-preserved : goal.loop-i-preserved
loop-i-preserved g c =
    let line = λ (item : ℕ × Atom). if truth_at c.args.state.now item.0 then atom_text c.args.task.now.labels item.1 ++ codes "\n" else [] in
    let own = λ (b : Bool). if b then atom_text c.args.task.now.labels c.atom-item.result ++ codes "\n" else [] in
    adding_more g.O.Out.adds g.met.O.Out.adds_then
    (next_of (λ atoms. flat_map line (enumerate_from c.loop-i.i atoms)) c.as_slice-atom-items.result.now c.loop-i.i c.atom-item.result c.loop-i-test.true c.atom-item.is)
    c.loop-i.invariant
    (adds_same g.O.Out.adds (ap own c.is_atom_true.ensures) c.put_line.ensures)

pub returns : goal.returns
returns g c =
    let line = λ (item : ℕ × Atom). if truth_at c.args.state.now item.0 then atom_text c.args.task.now.labels item.1 ++ codes "\n" else [] in
    let lines = λ (atoms : List Atom). flat_map line (enumerate_from 0 atoms) in
    g.met.O.Out.adds_then _ _ _ _ _ c.add.ensures
    (adds_same g.O.Out.adds (ap lines c.as_slice-atom-items.ensures)
    (adding_none g.O.Out.adds (at_drop_all (λ atoms. flat_map line (enumerate_from c.loop-i.i atoms)) c.as_slice-atom-items.result.now c.loop-i.i c.loop-i-test.false) c.loop-i.invariant))
