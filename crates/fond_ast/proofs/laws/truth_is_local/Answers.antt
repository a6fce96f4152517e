use Rattle.fond_ast.proofs.Local.{truth-is-local}
use Rattle.fond_ast.proofs.laws.truth_is_local.Goals as goal

pub returns : goal.returns
returns c = truth-is-local
