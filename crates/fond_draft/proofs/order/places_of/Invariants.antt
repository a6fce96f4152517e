use Rattle.std.proofs.Common.{◌≡◌, ℕ, ◌<◌, slice_get, Some}
use Rattle.std.specs.Prelude.{Contains}
use Rattle.fond_explicit.specs.Answers.{ChoiceView}
use Rattle.fond_draft.specs.Places.{IsPlace}
use Rattle.fond_draft.specs.declared.order.Place.{Place}
use Rattle.fond_draft.proofs.order.places_of.Given as goal

-- the places of the choices in the states so far
abbrev pub invariant-loop-at : goal.invariant-loop-at
invariant-loop-at l = record {
  each : (place : Place) → Contains l.places.items place → IsPlace l.plan.choices l.states place;
  all : (k number : ℕ) (choice : ChoiceView) → k < l.at → slice_get l.states k ≡ Some choice.state → slice_get l.plan.choices number ≡ Some choice → Contains l.places.items (record { rank = choice.rank; number = number });
}
