use Rattle.std.proofs.Common.{[], ◌∷◌}
use Rattle.std.specs.Prelude.{codes}
use Rattle.fond_tree.specs.Trees.{head_of}
use Rattle.fond_tree.proofs.Again.{first_of_heads}
use Rattle.fond_tree.proofs.repeats.repeated_in_domain.Goals as goal

pub returns : goal.returns
returns c =
    let constants = first_of_heads head_of (codes ":constants") (codes ":predicates" ∷ []) c.args.sections.now _ _ _ c.repeated_head.ensures c.repeated_head-predicates.ensures c.earlier-constants.ensures in
    let types = first_of_heads head_of (codes ":types") (codes ":constants" ∷ codes ":predicates" ∷ []) c.args.sections.now _ _ _ c.repeated_head-2.ensures constants c.earlier-types.ensures in
    first_of_heads head_of (codes ":requirements") (codes ":types" ∷ codes ":constants" ∷ codes ":predicates" ∷ []) c.args.sections.now _ _ _ c.repeated_head-3.ensures types c.earlier.ensures
