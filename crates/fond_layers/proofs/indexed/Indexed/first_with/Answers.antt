use Rattle.std.proofs.Common.{◌∙◌}
use Rattle.fond_layers.proofs.Firsts.{first_cube}
use Rattle.fond_layers.proofs.indexed.Indexed.first_with.Goals as goal

pub returns : goal.returns
returns c = first_cube c.args.s.now c.as_slice.result.now c.args.self.now c.first.result (c.as_slice.ensures ∙ c.self.view_is) c.first.ensures
