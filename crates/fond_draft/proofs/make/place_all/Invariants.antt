use Rattle.std.proofs.Common.{◌≡◌, List, Bool, length}
use Rattle.fond_draft.specs.Drafts.{IsDraft}
use Rattle.fond_draft.specs.Places.{HavePlaced}
use Rattle.fond_draft.specs.Targets.{HasRule}
use Rattle.fond_draft.proofs.make.place_all.Given as goal

-- a rule holds in the states of the choices at the places so far, and wherever one held
abbrev pub invariant-loop-entry : goal.invariant-loop-entry
invariant-loop-entry l = record {
  next_long : length l.next ≡ length l.t.atoms;
  draft : IsDraft l.t l.draft;
  pairs : l.draft.pairs ≡ l.initial.draft.pairs;
  kept : (state : List Bool) → HasRule l.initial.draft.rules state → HasRule l.draft.rules state;
  placed : HavePlaced l.plan.choices l.places l.entry-index l.draft.rules;
}
