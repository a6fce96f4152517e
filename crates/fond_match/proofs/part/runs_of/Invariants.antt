use Rattle.std.proofs.Common.{◌≡◌, ℕ, Bool, take}
use Rattle.fond_match.specs.Runs.{picked, run_visits}
use Rattle.fond_match.proofs.part.runs_of.Given as goal

abbrev pub invariant-loop-entry : goal.invariant-loop-entry
invariant-loop-entry l = (has : ℕ → Bool → Bool) → run_visits has l.runs.items ≡ picked has (take l.entry-index l.entries)
