use Rattle.std.proofs.Common.{◌≡◌, ◌-◌, ◌∙◌, ap, arith, length, take, drop}
use Rattle.std.proofs.lemmas.Bool.Decides.{nat_tests}
use Rattle.std.proofs.lemmas.Grind.{common_steps}
use Rattle.fond_tree.specs.Parts.{is_rest}
use Rattle.fond_tree.proofs.Pairs.{rest_counts, missing}
use Rattle.fond_tree.proofs.expected.is_counted.Goals as goal

pub returns-then-first-trees : goal.returns-then-first-trees
returns-then-first-trees c =
    let same : take (length c.args.trees.now - length c.args.shape.first.now) (drop (length c.args.shape.first.now) c.args.trees.now) ≡ drop (length c.args.shape.first.now) c.args.trees.now = grind (arith, common_steps) in
    c.is_rest.ensures ∙ ap (is_rest c.args.shape.rest) same ∙ rest_counts c.args.shape.first.now c.args.shape.rest c.args.trees.now (omega arith)

pub returns-else-first-trees : goal.returns-else-first-trees
returns-else-first-trees c =
    let none = missing c.args.shape.first.now c.args.shape.rest c.args.trees.now (omega arith) in
    grind (arith, nat_tests, none)
