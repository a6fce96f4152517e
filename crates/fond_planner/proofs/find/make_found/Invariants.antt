use Rattle.std.proofs.Common.{◌≡◌}
use Rattle.fond_draft.specs.Drafts.{IsDraft}
use Rattle.fond_planner.proofs.find.make_found.Given as goal

-- the draft stays one, with its pairs
abbrev pub invariant-loop-plan : goal.invariant-loop-plan
invariant-loop-plan l = IsDraft l.t l.draft × (l.draft.pairs ≡ l.initial.draft.pairs)
