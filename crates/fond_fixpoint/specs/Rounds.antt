-- What holds while the ranks of a round are found.
use Rattle.std.specs.Prelude.{◌≡◌, ℕ, ◌+◌, ◌<◌, ◌≤◌, Bool, true, false, List, length, count_by}
use Rattle.fond_fixpoint.specs.declared.fate.Fate.{Fate}
use Rattle.fond_fixpoint.specs.declared.fate.Fate.TheVariants.{Open, Goal, Ranked, Fallen}
use Rattle.fond_fixpoint.specs.Moves.{Move, move_at}
use Rattle.fond_fixpoint.specs.Fates.{fate_of, is_open, is_kept, wins, GoalsHold, RanksHold, FallsHold}

-- all ranks are below this one
abbrev pub RanksBelow : List Fate → ℕ → Type 0
RanksBelow fates bound = (node rank by : ℕ) → fate_of fates node ≡ Ranked rank by → rank < bound

-- in this round, with ranks below a bound, goals, ranks and falls are right, and there were no more rounds than nodes fell
pub record IsRound (goals : List Bool) (moves : List Move) (round bound : ℕ) (fates : List Fate) : Type 0 where
  pub whole : length fates ≡ length goals
  pub goals_hold : GoalsHold goals fates
  pub ranks_hold : RanksHold moves fates
  pub below : RanksBelow fates bound
  pub falls_hold : FallsHold moves fates round
  pub few : round + count_by is_kept fates ≤ length goals

-- no move out of an open node wins
abbrev pub IsSpent : List Move → List Fate → Type 0
IsSpent moves fates = (number : ℕ) → number < length moves → is_open (fate_of fates (move_at moves number).source) ≡ true → wins fates (move_at moves number) ≡ false

-- a part of the search for ranks keeps what holds in the round, and lengthens the queue by one for each node that is no
-- longer open; ranks are at most the length of the queue
pub record IsSearch (moves : List Move) (old new : List Fate) (before after : ℕ) : Type 0 where
  pub keeps : (goals : List Bool) (round : ℕ) → IsRound goals moves round (before + 1) old → IsRound goals moves round (after + 1) new
  pub counted : count_by is_open new + after ≡ count_by is_open old + before
  pub longer : before ≤ after

-- a fate after a round: what was open has fallen in it, and ranks have to be found again
abbrev pub dropped : ℕ → Fate → Fate
dropped now Open = Fallen now
dropped now Goal = Goal
dropped now (Ranked rank by) = Open
dropped now (Fallen round) = Fallen round
