use Rattle.std.proofs.Common.{◌≡◌, ℕ, []}
use Rattle.fond_explicit.specs.Filings.{filed_under}
use Rattle.fond_explicit.proofs.filing.no_lists.Given as goal

abbrev pub invariant-loop : goal.invariant-loop
invariant-loop l = (atom : ℕ) → filed_under l.lists.items atom ≡ []
