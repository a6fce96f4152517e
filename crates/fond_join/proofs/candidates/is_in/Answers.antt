use Rattle.std.proofs.Common.{◌∙◌}
use Rattle.fond_join.proofs.Rising.{found_in}
use Rattle.fond_join.proofs.candidates.is_in.Goals as goal

pub returns : goal.returns
returns c = c.is_ok.ensures.value ∙ found_in c.args.range.now c.args.object c.binary_search.result c.binary_search.ensures.position c.requires
