use Rattle.std.proofs.Common.{sym}
use Rattle.std.proofs.lemmas.List.Folds.{flat_map-map}
use Rattle.fond_text.proofs.Outs.{adds_same}
use Rattle.fond_cert.specs.Printed.{fed}
use Rattle.fond_cert.specs.Spellings.{cube_line}
use Rattle.fond_cert.proofs.print.put_layer.Goals as goal

pub returns : goal.returns
returns g c =
    let cubes = sym (flat_map-map fed (cube_line c.args.task.now) c.args.layer.now) in g.met.O.Out.adds_then _ _ _ _ _ c.put_line.ensures (adds_same g.O.Out.adds cubes c.put_all.ensures)
