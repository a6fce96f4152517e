use Rattle.std.proofs.Common.{sym}
use Rattle.std.specs.Cmp.Lexicographic.{bytes_decides}
use Rattle.fond_types.specs.Kept.{range_by}
use Rattle.fond_names.specs.Same.{kind_names}
use Rattle.fond_types.proofs.ranges.new_range.Goals as goal

pub returns-clause-sound : goal.returns-clause-sound
returns-clause-sound c =
    let files = c.args.table.now in
    c.in_ok-keep_range.ensures files c.requires.sound ((bytes_decides (range_by files (kind_names c.args.kinds.now)) c.in_ok-range.range.value).1 (sym c.in_ok-range.ensures))
