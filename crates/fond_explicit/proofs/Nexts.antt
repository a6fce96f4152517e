-- Tests of the targets of a move, by the outcomes of its action.
use Rattle.std.proofs.Common.{◌≡◌, ℕ, List, [], ◌∷◌, Bool, true, Some, slice_get, ap, ◌∙◌, ⊎_elim, arith}
use Rattle.std.specs.Prelude.{Contains}
use Rattle.std.specs.List.{list_all, list_any}
use Rattle.std.proofs.lemmas.Bool.{and_parts, or_cases, false≢true}
use Rattle.fond_task.specs.declared.task.Entry.{Entry}
use Rattle.fond_task.specs.Steps.{next_state}
use Rattle.fond_task.proofs.Lists.{Contains-here, Contains-later, Contains-cases}
use Rattle.fond_explicit.specs.Spaces.{AreNexts}

module _ (states : List (List Bool)) (state : List Bool) (test : ℕ → Bool) where
  -- an outcome leads to a node that passes the test
  pub record LeadsTo (outcome : List Entry) : Type 0 where
    pub node : ℕ
    pub has_state : slice_get states node ≡ Some (next_state state outcome)
    pub passes : test node ≡ true

  -- if some target passes, some outcome leads to a node that does
  pub some_next : (nodes : List ℕ) (outcomes : List (List Entry)) → AreNexts states state nodes outcomes → list_any test nodes ≡ true → (outcome : List Entry) × Contains outcomes outcome × LeadsTo outcome
  some_next [] outcomes nexts some = absurd (false≢true some)
  some_next (node ∷ nodes) [] nexts some = absurd nexts
  some_next (node ∷ nodes) (outcome ∷ outcomes) nexts some = ⊎_elim
      (λ here. (outcome, Contains-here outcome outcomes, record { node = node; has_state = nexts.0; passes = here }))
      (λ later. let rest = some_next nodes outcomes nexts.1 later in (rest.0, Contains-later rest.0 outcome outcomes rest.1, rest.2))
      (or_cases (test node) (list_any test nodes) some)

  -- if each target passes, each outcome leads to a node that does
  pub each_next : (nodes : List ℕ) (outcomes : List (List Entry)) → AreNexts states state nodes outcomes → list_all test nodes ≡ true → (outcome : List Entry) → Contains outcomes outcome → LeadsTo outcome
  each_next [] [] nexts all outcome has = absurd (omega (arith, has.1))
  each_next [] (first ∷ outcomes) nexts all outcome has = absurd nexts
  each_next (node ∷ nodes) [] nexts all outcome has = absurd nexts
  each_next (node ∷ nodes) (first ∷ outcomes) nexts all outcome has =
      let both = and_parts (test node) (list_all test nodes) all in
      ⊎_elim
      (λ same. record { node = node; has_state = nexts.0 ∙ ap (λ o. Some (next_state state o)) same; passes = both.0 })
      (λ later. each_next nodes outcomes nexts.1 both.1 outcome later)
      (Contains-cases outcome first outcomes has)
