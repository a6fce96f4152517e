-- What is decided about a task.
use Rattle.std.specs.Prelude.{ℕ, ⊤}
use Rattle.fond_state.specs.Games as games
use Rattle.fond_task.specs.declared.task.Task.{Task}
use Rattle.fond_task.specs.Policies.{game}
use Rattle.fond_policy.specs.Belongs.{Belongs}
use Rattle.fond_policy.specs.Sizes.{HasSmallNumbers}
use Rattle.fond_policy.specs.declared.cert.Cert.{Cert}
use Rattle.fond_policy.specs.declared.cert.Cert.TheVariants.{Policy, Refusal, Covered}
use Rattle.fond_policy.specs.Parts.{AreAllLean, IsRight}
use Rattle.fond_regress.specs.Stable.{IsHopeless}
use Rattle.fond_planner.specs.declared.decide.Decision.{Decision}
use Rattle.fond_planner.specs.declared.decide.Decision.TheVariants.{Certified, Undecided}

-- a certificate is a refusal, or a policy with a cover whose pairs, rules and items are all lean
abbrev pub IsLeanAnswer : Task → Cert → Type 0
IsLeanAnswer task (Refusal layers) = ⊤
IsLeanAnswer task (Covered layers pairs rules items start) = AreAllLean task layers pairs rules items
IsLeanAnswer task (Policy layers pairs rules reach) = ⊥

-- a certificate belongs to a task, its numbers fit their types, it is correct, and what it has of pairs, rules and items is lean
pub record IsGoodCert (task : Task) (cert : Cert) : Type 0 where
  pub belongs : Belongs task cert
  pub small : HasSmallNumbers cert
  pub right : IsRight task cert
  pub lean : IsLeanAnswer task cert

-- more than this many states are reachable in a task, by any actions out of states that are no goals
abbrev pub IsPast : Task → ℕ → Type 0
IsPast task budget = games.More (game task) budget

-- a decision about a task is right: its certificate is correct and lean; or more states are reachable than the budget, and the
-- initial state is not hopeless
abbrev pub IsDecision : Task → ℕ → Decision → Type 0
IsDecision task budget (Certified cert) = IsGoodCert task cert
IsDecision task budget Undecided = IsPast task budget × (¬ IsHopeless task task.init)
