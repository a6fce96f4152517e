use Rattle.fond_shortest.proofs.best.refusal_by.Goals as goal

pub returns-clause-good : goal.returns-clause-good
returns-clause-good c = record {
  belongs = record { few = c.read_sizes.ensures.few; few_cubes = c.read_sizes.ensures.few_cubes; over = c.requires.over };
  small = tt;
  right = record { layers_sure = c.requires.sure; start = c.requires.lies };
  lean = tt;
}
