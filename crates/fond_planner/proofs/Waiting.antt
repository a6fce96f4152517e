-- Reachable states that wait.
use Rattle.std.proofs.Common.{inl, inr, ◌≡◌, ◌⊎◌, Bool, List, [], ◌∷◌, ◌++◌, sym, subst}
use Rattle.std.specs.Prelude.{Contains}
use Rattle.std.proofs.lemmas.List.Elements.{Contains-append_left, Contains-push, Contains-push_cases}
use Rattle.fond_task.specs.declared.task.Task.{Task}
use Rattle.fond_draft.specs.Turns.{AreReachable}
use Rattle.fond_explicit.specs.Answers.{IsReachable}

-- the first of some reachable states are reachable
pub first_reachable : (task : Task) (states first last : List (List Bool)) → states ≡ first ++ last → AreReachable task states → AreReachable task first
first_reachable task states first last is reached = λ state has. reached state (subst (λ (all : List (List Bool)). Contains all state) (sym is) (Contains-append_left first last state has))

-- the last of some reachable states is reachable
pub last_reachable : (task : Task) (states first : List (List Bool)) (last : List Bool) → states ≡ first ++ last ∷ [] → AreReachable task states → IsReachable task task.init last
last_reachable task states first last is reached = reached last (subst (λ (all : List (List Bool)). Contains all last) (sym is) (Contains-push first last))

by_case : (task : Task) (first : List (List Bool)) (last state : List Bool) → AreReachable task first → IsReachable task task.init last → Contains first state ⊎ (last ≡ state) → IsReachable task task.init state
by_case task first last state reached reachable (inl has) = reached state has
by_case task first last state reached reachable (inr same) = subst (IsReachable task task.init) same reachable

-- reachable states and one more are reachable
pub pushed_reachable : (task : Task) (states first : List (List Bool)) (last : List Bool) → states ≡ first ++ last ∷ [] → AreReachable task first → IsReachable task task.init last → AreReachable task states
pushed_reachable task states first last is reached reachable = λ state has. by_case task first last state reached reachable (Contains-push_cases first last state (subst (λ (all : List (List Bool)). Contains all state) is has))
