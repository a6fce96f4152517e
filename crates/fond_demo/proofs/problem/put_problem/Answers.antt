use Rattle.std.proofs.Common.{length, ap, sym, ◌∙◌}
use Rattle.fond_text.proofs.Adding.{adds_same, adds_then}
use Rattle.fond_demo.specs.Demos.{for_each, way}
use Rattle.fond_demo.proofs.Drawn.{counted}
use Rattle.fond_demo.proofs.problem.put_problem.Goals as goal

pub put_ways-requires : goal.put_ways-requires
put_ways-requires c = sym (ap length c.requires.words ∙ counted c.args.size _)

pub returns : goal.returns
returns c =
    let ways = adds_same _ _ _ _ (ap (λ words. for_each c.args.size (way words)) c.requires.words) c.put_ways.ensures in
    let three = adds_then _ _ _ _ _ (adds_then _ _ _ _ _ c.put_objects.ensures c.add.ensures) ways in
    adds_then _ _ _ _ _ (adds_then _ _ _ _ _ (adds_then _ _ _ _ _ three c.add-2.ensures) c.put_place.ensures) c.add-3.ensures
