-- Choices in the order of their ranks.
use Rattle.std.specs.Prelude.{◌≡◌, ◌<◌, ℕ, List, Bool, Some, slice_get, Contains}
use Rattle.std.specs.List.Sorted.{IsNonDecreasingBy}
use Rattle.fond_task.specs.declared.task.Task.{Task}
use Rattle.fond_task.specs.declared.rule.Rule.{Rule}
use Rattle.fond_explicit.specs.Answers.{ChoiceView}
use Rattle.fond_draft.specs.Plans.{AreBelow}
use Rattle.fond_draft.specs.Targets.{HasRule}
use Rattle.fond_draft.specs.declared.order.Place.{Place}
use Rattle.fond_draft.specs.declared.plan.Plan.{Plan}

-- a place is that of a choice in one of these states: it has its number and its rank
pub record IsPlace (choices : List ChoiceView) (states : List (List Bool)) (place : Place) : Type 0 where
  pub choice : ChoiceView
  pub numbered : slice_get choices place.number ≡ Some choice
  pub ranked : place.rank ≡ choice.rank
  pub here : Contains states choice.state

-- the choices in these states have a place
abbrev pub HavePlaces : List ChoiceView → List (List Bool) → List Place → Type 0
HavePlaces choices states places =
    (number : ℕ) (choice : ChoiceView) → slice_get choices number ≡ Some choice → Contains states choice.state → Contains places (record { rank = choice.rank; number = number })

-- places are those of the choices in these states, by rising ranks
pub record AreInOrder (choices : List ChoiceView) (states : List (List Bool)) (places : List Place) : Type 0 where
  pub each : (place : Place) → Contains places place → IsPlace choices states place
  pub all : HavePlaces choices states places
  pub rising : IsNonDecreasingBy (λ place. place.rank) places

-- places are those of the choices in some states that are closed downward, by rising ranks
pub record ArePlacesBelow (task : Task) (rules : List Rule) (plan : Plan) (places : List Place) : Type 0 where
  pub states : List (List Bool)
  pub below : AreBelow task rules plan states
  pub ordered : AreInOrder plan.choices states places

-- a rule holds in the state of the choice at each of the first places, this many
abbrev pub HavePlaced : List ChoiceView → List Place → ℕ → List Rule → Type 0
HavePlaced choices places done rules =
    (number : ℕ) (place : Place) (choice : ChoiceView) → number < done → slice_get places number ≡ Some place → slice_get choices place.number ≡ Some choice → HasRule rules choice.state
