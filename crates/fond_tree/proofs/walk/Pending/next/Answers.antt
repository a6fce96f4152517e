use Rattle.fond_tree.proofs.walk.Pending.next.Goals as goal

pub returns-in-Typed : goal.returns-in-Typed
returns-in-Typed c = rw c.in-Typed.is c.next_typed.ensures
