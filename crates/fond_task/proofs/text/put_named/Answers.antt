use Rattle.fond_task.proofs.text.put_named.Goals as goal

pub returns : goal.returns
returns g c =
    let then = g.met.O.Out.adds_then in
    then _ _ _ _ _ (then _ _ _ _ _ (then _ _ _ _ _ c.add.ensures c.put_name.ensures) c.put_objects.ensures) c.add-2.ensures
