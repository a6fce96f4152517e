use Rattle.fond_planner.proofs.Right.{right_cover}
use Rattle.fond_planner.proofs.decide.policy_of.Goals as goal

pub returns : goal.returns
returns c =
    let task = c.args.t.now in
    let draft = c.args.draft in
    right_cover task draft c.requires.draft c.args.covering.items c.args.covering.start c.read_sizes.ensures.few c.read_sizes.ensures.few_cubes c.read_count.ensures c.requires.covering
