use Rattle.fond_check.proofs.parts.is_lean_pair.Goals as goal

pub returns-in-Some-clause-decides : goal.returns-in-Some-clause-decides
returns-in-Some-clause-decides c = c.lean_pair.ensures.decides c.args.layers.now c.in-Some.ensures.0 c.in-Some.ensures.1 c.in-Some.ensures.2
