use Rattle.fond_planner.proofs.Right.{right_refusal}
use Rattle.fond_planner.proofs.decide.refusal_of.Goals as goal

pub returns : goal.returns
returns c = right_refusal c.args.t.now c.args.draft c.requires.draft c.read_sizes.ensures.few c.read_sizes.ensures.few_cubes c.requires.lies
