use Rattle.std.proofs.Common.{[], ◌∷◌}
use Rattle.std.specs.Prelude.{codes}
use Rattle.fond_tree.specs.FormFaults.{keys}
use Rattle.fond_tree.specs.Trees.{leaf_of}
use Rattle.fond_tree.proofs.Again.{first_of_heads}
use Rattle.fond_tree.proofs.repeats.repeated_in_action.Goals as goal

pub returns : goal.returns
returns c =
    let precondition = first_of_heads leaf_of (codes ":precondition") (codes ":effect" ∷ []) (keys c.args.pairs.now) _ _ _ c.repeated_key.ensures c.repeated_key-effect.ensures c.earlier-precondition.ensures in
    first_of_heads leaf_of (codes ":parameters") (codes ":precondition" ∷ codes ":effect" ∷ []) (keys c.args.pairs.now) _ _ _ c.repeated_key-2.ensures precondition c.earlier.ensures
