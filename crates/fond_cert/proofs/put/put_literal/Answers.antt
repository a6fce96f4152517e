use Rattle.fond_cert.proofs.put.put_literal.Goals as goal

pub returns-in-Some : goal.returns-in-Some
returns-in-Some g c =
    rw c.in-Some.is (g.met.O.Out.adds_then _ _ _ _ _ c.put_sign.ensures c.put_atom.ensures)
