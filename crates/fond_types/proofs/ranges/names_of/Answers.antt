use Rattle.std.proofs.Common.{◌+◌, ◌++◌, ◌∷◌, [], List, drop, sym, ap, ◌∙◌, append_assoc}
use Rattle.fond_ast.specs.declared.names.Kind.{Kind}
use Rattle.fond_names.specs.Same.{kind_names}
use Rattle.fond_names.proofs.Differs.{next_left}
use Rattle.fond_types.proofs.ranges.names_of.Goals as goal

pub loop-i-preserved : goal.loop-i-preserved
loop-i-preserved c =
    let kinds = c.args.kinds.now in
    let kind = c.get.result.now in
    let rest = kind_names (drop (c.loop-i.i + 1) kinds) in
    ap (λ names. names ++ rest) (c.in_ok-push.ensures.ok ∙ ap (λ name. c.loop-i.names ++ name ∷ []) c.in_ok-copy.ensures.copy)
    ∙ append_assoc c.loop-i.names (kind.name ∷ []) rest
    ∙ ap (λ (some : List Kind). c.loop-i.names ++ kind_names some) (sym (next_left kinds c.loop-i.i kind c.get.ensures)) ∙ c.loop-i.invariant
