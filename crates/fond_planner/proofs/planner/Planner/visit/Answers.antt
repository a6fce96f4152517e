use Rattle.fond_planner.proofs.planner.Planner.visit.Goals as goal

pub take_all-requires-clause-outset : goal.take_all-requires-clause-outset
take_all-requires-clause-outset g c = c.set_act.ensures.outset c.if-not-set_act.false

pub take_all-requires-clause-free : goal.take_all-requires-clause-free
take_all-requires-clause-free g c = c.set_act.ensures.free c.if-not-set_act.false
