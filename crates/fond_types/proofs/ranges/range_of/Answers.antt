use Rattle.std.proofs.Common.{sym, ap, ◌∙◌}
use Rattle.std.specs.Str.{bytes_eq}
use Rattle.std.specs.Cmp.Lexicographic.{bytes_decides}
use Rattle.fond_types.specs.declared.kept.Kept.{Kept}
use Rattle.fond_types.specs.Kept.{range_by}
use Rattle.fond_names.proofs.Members.{all_hold}
use Rattle.fond_types.proofs.Passing.{if_ok}
use Rattle.fond_types.proofs.RangeLemmas.{range_named}
use Rattle.fond_types.proofs.ranges.range_of.Goals as goal

pub returns-in-Some-clause-range : goal.returns-in-Some-clause-range
returns-in-Some-clause-range c =
    let files = c.args.table.now in
    let entry = c.in-Some.entry.now in
    let kept = all_hold (λ (one : Kept). bytes_eq (range_by files one.kinds) one.range.value) c.args.kept.now.entries.items entry c.requires.sound c.in-Some.ensures.1 in
    c.in_ok-clone.ensures.cases ∙ sym ((bytes_decides (range_by files entry.kinds) entry.range.value).0 kept) ∙ ap (range_by files) c.in-Some.ensures.0 ∙ sym (range_named files c.args.kinds.now)

pub returns-clause-range : goal.returns-clause-range
returns-clause-range c = if_ok _ _ c.new_range.result (λ range is. is ∙ sym (range_named c.args.table.now c.args.kinds.now)) c.new_range.ensures.range
