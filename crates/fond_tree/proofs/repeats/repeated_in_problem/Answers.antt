use Rattle.std.proofs.Common.{[], ◌∷◌}
use Rattle.std.specs.Prelude.{codes}
use Rattle.fond_tree.specs.Trees.{head_of}
use Rattle.fond_tree.proofs.Again.{first_of_heads}
use Rattle.fond_tree.proofs.repeats.repeated_in_problem.Goals as goal

pub returns : goal.returns
returns c =
    let init = first_of_heads head_of (codes ":init") (codes ":goal" ∷ []) c.args.sections.now _ _ _ c.repeated_head.ensures c.repeated_head-goal.ensures c.earlier-init.ensures in
    let objects = first_of_heads head_of (codes ":objects") (codes ":init" ∷ codes ":goal" ∷ []) c.args.sections.now _ _ _ c.repeated_head-2.ensures init c.earlier-objects.ensures in
    let domain = first_of_heads head_of (codes ":domain") (codes ":objects" ∷ codes ":init" ∷ codes ":goal" ∷ []) c.args.sections.now _ _ _ c.repeated_head-3.ensures objects c.earlier-domain.ensures in
    first_of_heads head_of (codes ":requirements") (codes ":domain" ∷ codes ":objects" ∷ codes ":init" ∷ codes ":goal" ∷ []) c.args.sections.now _ _ _ c.repeated_head-4.ensures domain c.earlier.ensures
