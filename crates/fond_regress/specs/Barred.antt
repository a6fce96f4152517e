-- Pairs that bar actions in states.
use Rattle.std.specs.Prelude.{◌≡◌, ℕ, List, Bool, Contains}
use Rattle.fond_state.specs.Cubes.{LiesIn}
use Rattle.fond_task.specs.declared.rule.Pair.{Pair}

-- a pair bars an action in a state: it is of the action, and its condition holds in the state
abbrev pub Bars : Pair → ℕ → List Bool → Type 0
Bars pair act state = (pair.act ≡ act) × LiesIn state pair.cond

-- one of the pairs bars an action in a state
pub record IsBarred (pairs : List Pair) (act : ℕ) (state : List Bool) : Type 0 where
  pub pair : Pair
  pub one : Contains pairs pair
  pub bars : Bars pair act state
