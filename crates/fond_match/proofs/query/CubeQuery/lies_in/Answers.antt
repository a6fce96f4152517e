use Rattle.std.proofs.lemmas.Bool.Decides.{same_from_decides}
use Rattle.fond_match.specs.Lying.{cube_lies_in-Decides}
use Rattle.fond_match.proofs.query.CubeQuery.lies_in.Goals as goal

pub returns : goal.returns
returns c = same_from_decides _ _ c.covers.ensures (cube_lies_in-Decides c.args.self.now c.args.cube.now)
