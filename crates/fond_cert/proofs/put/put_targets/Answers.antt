use Rattle.std.proofs.Common.{ap, map, ℕ, List}
use Rattle.std.proofs.lemmas.List.{at_drop_more, at_drop_all}
use Rattle.fond_task.specs.declared.rule.Target.{Target}
use Rattle.fond_form.specs.Lines.{spaced}
use Rattle.fond_cert.specs.Spellings.{target_word}
use Rattle.fond_text.proofs.Outs.{adds_same, adding_all, adding_more, adding_none}
use Rattle.fond_cert.proofs.put.put_targets.Goals as goal

pub loop-target-init : goal.loop-target-init
loop-target-init g c = adding_all g.O.Out.adds (g.met.O.Out.adds_nothing _)

pub loop-target-preserved : goal.loop-target-preserved
loop-target-preserved g c =
    let text : List Target → List ℕ = λ targets. spaced (map target_word targets) in
    adding_more g.O.Out.adds g.met.O.Out.adds_then (at_drop_more text c.as_slice-target-items.result.now c.loop-target.target-index _ c.loop-target-test.true) c.loop-target.invariant c.put_next_target.ensures

pub returns : goal.returns
returns g c =
    let text : List Target → List ℕ = λ targets. spaced (map target_word targets) in
    adds_same g.O.Out.adds (ap text c.as_slice-target-items.ensures)
    (adding_none g.O.Out.adds (at_drop_all text c.as_slice-target-items.result.now c.loop-target.target-index c.loop-target-test.false) c.loop-target.invariant)
