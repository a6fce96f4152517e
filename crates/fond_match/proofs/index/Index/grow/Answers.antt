use Rattle.fond_match.proofs.Growing.{index_few}
use Rattle.fond_match.proofs.index.Index.grow.Goals as goal

pub returns-then-saturating_sub-lt-FEW-clause-few : goal.returns-then-saturating_sub-lt-FEW-clause-few
returns-then-saturating_sub-lt-FEW-clause-few g c = index_few g.T.HasCube.cube c.args.items.now c.args.self.now c.requires.of

pub returns-clause-few : goal.returns-clause-few
returns-clause-few g c = index_few g.T.HasCube.cube c.args.items.now c.rebuild.new.self c.rebuild.ensures.of
