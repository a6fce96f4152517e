use Rattle.fond_ast.proofs.Tested.{truth-is-tested}
use Rattle.fond_ast.proofs.laws.truth_is_tested.Goals as goal

pub returns : goal.returns
returns c = truth-is-tested
