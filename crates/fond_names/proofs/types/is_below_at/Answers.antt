use Rattle.std.proofs.Common.{sym, ◌∙◌}
use Rattle.fond_ast.specs.declared.names.Kind.{Kind}
use Rattle.fond_kinds.proofs.Numbers.{any_at}
use Rattle.fond_names.specs.Subtypes.{is_below}
use Rattle.fond_names.proofs.types.is_below_at.Goals as goal

pub returns-in-Some : goal.returns-in-Some
returns-in-Some c = λ below.
    any_at (λ (other : Kind). is_below c.args.types.now.types.now c.args.name.now other.name) c.args.kinds.now c.in-Some.index.now c.get-in-Some.result.now c.get-in-Some.ensures
    (sym c.is_below.ensures ∙ below)
