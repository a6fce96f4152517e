use Rattle.std.proofs.Common.{not, Some, arith}
use Rattle.std.proofs.lemmas.List.Sums.{prefix_len-le-length}
use Rattle.fond_tree.specs.Parts.{is_dash}
use Rattle.fond_reader.proofs.Groups.{group_of, last_fits, group_fits, no_last_dash, adds_last, adds_group}
use Rattle.fond_reader.proofs.Lengths.{none_below, one_below, two_and_rest}
use Rattle.fond_reader.proofs.typed.push_group.Goals as goal

pub split_at-requires : goal.split_at-requires
split_at-requires c = omega (arith, c.group_len.ensures, prefix_len-le-length (λ tree. not (is_dash tree)) c.args.trees.now)

pub push_leaves-requires-clause-leaves : goal.push_leaves-requires-clause-leaves
push_leaves-requires-clause-leaves c =
    let group = group_of c.args.trees.now _ _ _ c.group_len.ensures c.split_at.ensures.front c.split_at.ensures.back in
    (last_fits c.args.sort c.args.trees.now _ _ group (none_below _ c.in-empty.len_below) c.requires.fits).leaves_fit

pub unreachable-requires : goal.unreachable-requires
unreachable-requires c =
    let group = group_of c.args.trees.now _ _ _ c.group_len.ensures c.split_at.ensures.front c.split_at.ensures.back in
    let last = one_below _ c.in_default.len_at_least c.in_default.len_below in
    no_last_dash c.args.sort c.args.trees.now _ _ last.0 group last.1 c.requires.fits

pub push_leaves-requires-in-len2-up-clause-leaves : goal.push_leaves-requires-in-len2-up-clause-leaves
push_leaves-requires-in-len2-up-clause-leaves c =
    let group = group_of c.args.trees.now _ _ _ c.group_len.ensures c.split_at.ensures.front c.split_at.ensures.back in
    let two = two_and_rest _ c.kind-item.result c.in-len2-up.len_at_least c.kind-item.is in
    (group_fits c.args.sort c.args.trees.now _ _ two.0 _ _ group two.1 c.requires.fits).leaves_fit

pub push_leaves-requires-in-len2-up-clause-kind : goal.push_leaves-requires-in-len2-up-clause-kind
push_leaves-requires-in-len2-up-clause-kind c =
    let group = group_of c.args.trees.now _ _ _ c.group_len.ensures c.split_at.ensures.front c.split_at.ensures.back in
    let two = two_and_rest _ c.kind-item.result c.in-len2-up.len_at_least c.kind-item.is in
    (group_fits c.args.sort c.args.trees.now _ _ two.0 _ _ group two.1 c.requires.fits).kind_fits

pub returns-in_ok-push_leaves-in-empty-clause-added : goal.returns-in_ok-push_leaves-in-empty-clause-added
returns-in_ok-push_leaves-in-empty-clause-added c =
    let group = group_of c.args.trees.now _ _ _ c.group_len.ensures c.split_at.ensures.front c.split_at.ensures.back in
    let none = none_below c.split_at.result.1.now c.in-empty.len_below in
    adds_last c.args.sort c.args.trees.now _ _ _ _ group none c.requires.fits c.in_ok-push_leaves-in-empty.ensures

pub returns-in_ok-push_leaves-in-len2-up-clause-added : goal.returns-in_ok-push_leaves-in-len2-up-clause-added
returns-in_ok-push_leaves-in-len2-up-clause-added c =
    let group = group_of c.args.trees.now _ _ _ c.group_len.ensures c.split_at.ensures.front c.split_at.ensures.back in
    let two = two_and_rest _ c.kind-item.result c.in-len2-up.len_at_least c.kind-item.is in
    let fits = group_fits c.args.sort c.args.trees.now _ _ two.0 _ _ group two.1 c.requires.fits in
    adds_group c.args.sort (Some c.kind-item.result) c.args.trees.now _ _ _ _ fits.leaves_are fits.rest_fits c.in_ok-push_leaves-in-len2-up.ensures
