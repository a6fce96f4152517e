use Rattle.std.proofs.Common.{Bool, true, false, not, refl}
use Rattle.std.specs.Bool.{Decides}
use Rattle.std.proofs.lemmas.Bool.{false≢true}
use Rattle.std.proofs.lemmas.Bool.Decides.{same_from_decides}
use Rattle.fond_match.specs.Besides.{is_beside-Decides}
use Rattle.fond_match.proofs.query.BesideQuery.lies_in.Goals as goal

-- what tests a statement tests, turned, that it does not hold
turned : {P : Type 0} (b : Bool) → Decides b P → Decides (not b) (¬ P)
turned true told = (λ e. absurd (false≢true e), λ none. absurd (none (told.0 refl)))
turned false told = (λ e holds. false≢true (told.1 holds), λ none. refl)

pub returns : goal.returns
returns c = same_from_decides _ _ (turned _ (rw c.self.view_is at c.contradicts.ensures)) (is_beside-Decides _ _)
