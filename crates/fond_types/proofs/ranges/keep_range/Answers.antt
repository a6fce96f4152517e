use Rattle.std.proofs.Common.{◌∙◌}
use Rattle.std.specs.Str.{bytes_eq}
use Rattle.fond_types.specs.Kept.{range_by}
use Rattle.fond_types.proofs.Passing.{on_ok}
use Rattle.fond_types.proofs.ranges.keep_range.Goals as goal

pub returns : goal.returns
returns c = on_ok c.keep.result (λ keeps files kept is. keeps files kept ((λ i. bytes_eq (range_by files (c.in_ok-entry.ensures.kinds i)) (c.in_ok-entry.ensures.range i)) ∙ is)) c.keep.ensures
