-- Parts of the search for ranks, one after the other.
use Rattle.std.proofs.Common.{ℕ, ◌<◌, ◌≤◌, List, Bool, arith}
use Rattle.fond_fixpoint.specs.declared.fate.Fate.{Fate}
use Rattle.fond_fixpoint.specs.Moves.{Move}
use Rattle.fond_fixpoint.specs.Rounds.{IsRound, IsSearch}

pub search_none : (moves : List Move) (fates : List Fate) (count : ℕ) → IsSearch moves fates fates count count
search_none moves fates count = record { keeps = λ goals round now. now; counted = omega arith; longer = omega arith }

pub search_then : (moves : List Move) (old between new : List Fate) (a b c : ℕ) → IsSearch moves old between a b → IsSearch moves between new b c → IsSearch moves old new a c
search_then moves old between new a b c one two = record {
  keeps = λ goals round now. two.keeps goals round (one.keeps goals round now);
  counted = omega (arith, one.counted, two.counted);
  longer = omega (arith, one.longer, two.longer);
}

-- what holds in a round with ranks below a bound holds with a larger one
pub round_above : (goals : List Bool) (moves : List Move) (round bound above : ℕ) (fates : List Fate) → bound ≤ above → IsRound goals moves round bound fates → IsRound goals moves round above fates
round_above goals moves round bound above fates larger now = record {
  whole = now.whole;
  goals_hold = now.goals_hold;
  ranks_hold = now.ranks_hold;
  below = λ node rank by is. (let small : rank < bound = now.below node rank by is in omega arith);
  falls_hold = now.falls_hold;
  few = now.few;
}
