use Rattle.std.proofs.Common.{arith}
use Rattle.std.proofs.lemmas.List.Sums.{prefix_len-le-length}
use Rattle.fond_form.specs.Feeds.{is_in_line}
use Rattle.fond_form.proofs.Feeds.{line_cut, no_feed, with_feed}
use Rattle.fond_form.proofs.feed.line_of.Goals as goal

pub split_at-requires : goal.split_at-requires
split_at-requires c = omega (arith, c.len_before.ensures, prefix_len-le-length is_in_line c.args.text.now)

pub returns-in_err-further : goal.returns-in_err-further
returns-in_err-further c =
    let none = no_feed _ _ _ (line_cut _ _ _ _ c.len_before.ensures c.split_at.ensures.front c.split_at.ensures.back) c.in_err-further.ensures.cases in
    rw c.from_residual.ensures none

pub returns : goal.returns
returns c = with_feed _ _ _ _ _ (line_cut _ _ _ _ c.len_before.ensures c.split_at.ensures.front c.split_at.ensures.back) c.in_ok-further.ensures.cases.0
