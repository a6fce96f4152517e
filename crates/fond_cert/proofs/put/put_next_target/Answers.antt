use Rattle.fond_cert.proofs.put.put_next_target.Goals as goal

pub returns : goal.returns
returns g c =
    g.met.O.Out.adds_then _ _ _ _ _ c.add.ensures c.put_target.ensures
