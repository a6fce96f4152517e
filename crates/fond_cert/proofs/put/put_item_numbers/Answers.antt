use Rattle.std.proofs.Common.{ap, map, ℕ, List}
use Rattle.std.proofs.lemmas.List.{at_drop_more, at_drop_all}
use Rattle.std.specs.Fmt.{decimal}
use Rattle.fond_form.specs.Lines.{spaced}
use Rattle.fond_text.proofs.Outs.{adds_same, adding_all, adding_more, adding_none}
use Rattle.fond_cert.proofs.put.put_item_numbers.Goals as goal

pub loop-item-init : goal.loop-item-init
loop-item-init g c = adding_all g.O.Out.adds (g.met.O.Out.adds_nothing _)

pub loop-item-preserved : goal.loop-item-preserved
loop-item-preserved g c =
    let text : List ℕ → List ℕ = λ items. spaced (map decimal items) in
    adding_more g.O.Out.adds g.met.O.Out.adds_then (at_drop_more text c.as_slice-item-items.result.now c.loop-item.item-index 0 c.loop-item-test.true) c.loop-item.invariant c.put_spaced.ensures

pub returns : goal.returns
returns g c =
    let text : List ℕ → List ℕ = λ items. spaced (map decimal items) in
    adds_same g.O.Out.adds (ap text c.as_slice-item-items.ensures)
    (adding_none g.O.Out.adds (at_drop_all text c.as_slice-item-items.result.now c.loop-item.item-index c.loop-item-test.false) c.loop-item.invariant)
