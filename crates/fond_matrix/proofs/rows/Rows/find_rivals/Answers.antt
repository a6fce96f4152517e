use Rattle.fond_state.proofs.Changed.{none_true}
use Rattle.fond_matrix.proofs.rows.Rows.find_rivals.Goals as goal

pub gather-requires-clause-clear : goal.gather-requires-clause-clear
gather-requires-clause-clear c = λ k _. (none_true 64 k, none_true 64 k)
