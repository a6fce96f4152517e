use Rattle.std.proofs.Common.{arith}
use Rattle.std.proofs.lemmas.List.Sums.{prefix_len-le-length}
use Rattle.fond_text.specs.Bytes.{is_leaf_byte}
use Rattle.fond_tree.proofs.Places.{leaf_piece, leaf_end}
use Rattle.fond_tree.proofs.scan.Scanner.leaf.Goals as goal

pub split_at-requires : goal.split_at-requires
split_at-requires c = omega (arith, c.leaf_len.ensures, prefix_len-le-length is_leaf_byte c.args.self.now.rest.now)

pub returns-clause-yields : goal.returns-clause-yields
returns-clause-yields c = leaf_piece _ _ _ _ c.leaf_len.result c.requires c.leaf_len.ensures c.split_at.ensures.front c.split_at.ensures.back

pub returns-clause-end : goal.returns-clause-end
returns-clause-end c = leaf_end _ _ _ _ c.leaf_len.result c.leaf_len.ensures c.split_at.ensures.front c.split_at.ensures.back
