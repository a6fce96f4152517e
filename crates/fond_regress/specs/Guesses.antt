-- What is estimated about a state.
use Rattle.std.specs.Prelude.{List, Bool}
use Rattle.fond_task.specs.declared.task.Task.{Task}
use Rattle.fond_regress.specs.Stable.{IsHopeless, IsHopelessBy}
use Rattle.fond_regress.specs.declared.estimate.Guess.{Guess}
use Rattle.fond_regress.specs.declared.estimate.Guess.TheVariants.{Reach, Never}

-- an estimate of a state is right: the state is not hopeless, or it is so by this cube
abbrev pub IsGuess : Task → List Bool → Guess → Type 0
IsGuess task state (Reach number) = ¬ IsHopeless task state
IsGuess task state (Never cube) = IsHopelessBy task state cube
