use Rattle.std.proofs.Common.{arith}
use Rattle.std.proofs.lemmas.List.Sums.{prefix_len-le-length}
use Rattle.fond_form.specs.Parts.{is_in_word}
use Rattle.fond_form.proofs.Cuts.{cut_is}
use Rattle.fond_form.proofs.word.word.Goals as goal

pub split_at-requires : goal.split_at-requires
split_at-requires c = omega (arith, c.len_before.ensures, prefix_len-le-length is_in_word c.args.text.now)

pub returns : goal.returns
returns c = cut_is _ _ _ _ c.len_before.ensures c.split_at.ensures.front c.split_at.ensures.back
