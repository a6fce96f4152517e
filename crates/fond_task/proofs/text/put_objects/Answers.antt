use Rattle.std.proofs.Common.{ap, codes, ◌++◌, ℕ, List}
use Rattle.std.proofs.lemmas.List.{at_drop_more, at_drop_all}
use Rattle.std.specs.List.{flat_map}
use Rattle.fond_text.proofs.Outs.{adds_same, adding_all, adding_more, adding_none}
use Rattle.fond_task.specs.Texts.{name_at}
use Rattle.fond_task.proofs.text.put_objects.Goals as goal

pub loop-object-init : goal.loop-object-init
loop-object-init g c = adding_all g.O.Out.adds (g.met.O.Out.adds_nothing _)

pub loop-object-preserved : goal.loop-object-preserved
loop-object-preserved g c =
    let text : List ℕ → List ℕ = flat_map (λ object. codes " " ++ name_at c.args.names.now object) in
    adding_more g.O.Out.adds g.met.O.Out.adds_then (at_drop_more text c.as_slice-object-items.result.now c.loop-object.object-index 0 c.loop-object-test.true) c.loop-object.invariant
    (g.met.O.Out.adds_then _ _ _ _ _ c.add.ensures c.put_name.ensures)

pub returns : goal.returns
returns g c =
    let text : List ℕ → List ℕ = flat_map (λ object. codes " " ++ name_at c.args.names.now object) in
    adds_same g.O.Out.adds (ap text c.as_slice-object-items.ensures)
    (adding_none g.O.Out.adds (at_drop_all text c.as_slice-object-items.result.now c.loop-object.object-index c.loop-object-test.false) c.loop-object.invariant)
