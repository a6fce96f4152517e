use Rattle.std.proofs.Common.{◌∙◌}
use Rattle.std.specs.List.{list_all}
use Rattle.fond_ast.specs.declared.names.Kind.{Kind}
use Rattle.fond_names.proofs.predicates.are_among.Goals as goal

pub returns : goal.returns
returns c = c.are_indexed.ensures ∙ (λ i. list_all (λ (kind : Kind). c.in_ok-index.ensures kind.name i) c.args.kinds.now)
