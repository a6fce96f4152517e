use Rattle.fond_layers.proofs.Tried.{AllBefore}
use Rattle.fond_state.specs.Cubes.{LiesIn}
use Rattle.fond_best.proofs.rate.is_among.Given as goal

-- the state lies in none of the cubes so far
abbrev pub invariant-loop-cube : goal.invariant-loop-cube
invariant-loop-cube l = AllBefore l.cube-items (λ cube. ¬ LiesIn l.state cube) l.cube-index
