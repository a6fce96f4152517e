-- Effects whose one outcome is empty.
use Rattle.std.proofs.Common.{◌≡◌, ◌∙◌, ℕ, ◌+◌, ◌<◌, List, [], ◌∷◌, map, drop, length, get_or, refl, sym, ap}
use Rattle.fond_text.specs.Lists.{concatenations}
use Rattle.fond_ast.specs.declared.form.LEffect.{LEffect, Nothing}
use Rattle.fond_ast.specs.declared.form.LEffect.TheOpen as open_effect
use Rattle.fond_ast.specs.declared.form.LEffect.TheViews.{rolls-Nothing}
use Rattle.fond_ast.specs.declared.form.LEffect.TheFolds.{fold-roll-LEffect}
use Rattle.fond_ast.specs.Outcomes.{Literal, outcomes, outcomes_step}
use Rattle.fond_oneof.proofs.Lists.{drop_item, pairs-first}

-- an empty outcome that is joined changes nothing
pub empty_first : (lists : List (List Literal)) (rest : List (List (List Literal))) → lists ≡ [] ∷ [] → concatenations (lists ∷ rest) ≡ concatenations rest
empty_first lists rest is = ap (λ list. concatenations (list ∷ rest)) is ∙ pairs-first (concatenations rest)

pub all_empty : (of : List ℕ → List (List Literal)) → ((objects : List ℕ) → of objects ≡ [] ∷ []) → (tuples : List (List ℕ)) → concatenations (map of tuples) ≡ [] ∷ []
all_empty of each [] = refl
all_empty of each (objects ∷ tuples) = empty_first (of objects) (map of tuples) (each objects) ∙ all_empty of each tuples

pub empty_next : (env : List ℕ) (members : List LEffect) (i : ℕ) (member : LEffect) → i < length members → member ≡ get_or members i member → outcomes env member ≡ [] ∷ []
    → concatenations (map (outcomes env) (drop (i + 1) members)) ≡ concatenations (map (outcomes env) (drop i members))
empty_next env members i member within is empty = sym (ap (λ left. concatenations (map (outcomes env) left)) (drop_item members i member within is) ∙ empty_first (outcomes env member) (map (outcomes env) (drop (i + 1) members)) empty)

pub outcomes-Nothing : (env : List ℕ) → outcomes env Nothing ≡ [] ∷ []
outcomes-Nothing env = ap (outcomes env) (sym rolls-Nothing) ∙ ap (λ f. f env) (fold-roll-LEffect (List ℕ → List (List Literal)) outcomes_step open_effect.Nothing)
