use Rattle.fond_check.proofs.check.check_items.Goals as goal

pub returns-in-Some : goal.returns-in-Some
returns-in-Some c = c.in-Some.ensures.first c.args.layers.now c.args.pairs.now c.requires.sure
