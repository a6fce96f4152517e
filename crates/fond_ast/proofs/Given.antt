-- The changes that an effect may give in a state are those that its outcomes make there.
use Rattle.std.proofs.Common.{◌≡◌, ◌⊎◌, inl, inr, ℕ, ◌∙◌, Bool, true, false, List, [], ◌∷◌, ◌++◌, map, refl, sym, ap, subst}
use Rattle.std.specs.List.{flat_map}
use Rattle.std.proofs.lemmas.Bool.{false≢true}
use Rattle.fond_text.specs.Lists.{concatenations}
use Rattle.fond_ast.specs.Ranges.{objects_of}
use Rattle.fond_ast.specs.declared.form.LCond.{LCond}
use Rattle.fond_ast.specs.declared.form.LEffect.{LEffect, Nothing, Add, Delete, And', Forall', When', OneOf', Row_of-LEffect, end_of-LEffect, more_of-LEffect}
use Rattle.fond_ast.specs.States.{State}
use Rattle.fond_ast.specs.Conditions.{tuples, Holds}
use Rattle.fond_ast.specs.Effects.{Change, no_change, both, IsUnionOver, Gives, GivesEach, GivesSome}
use Rattle.fond_ast.specs.Truths.{holds}
use Rattle.fond_ast.specs.Outcomes.{Guard, Literal, guarded, change_of, outcomes}
use Rattle.fond_ast.proofs.Changes.{change-append, change-guarded, change-barred}
use Rattle.fond_ast.proofs.Choosing.{Chooses, ChoosesEach, ChoosesSome, each_outcomes, has-outcome, outcomes-Nothing, outcomes-Add, outcomes-Delete, outcomes-And', outcomes-Forall', outcomes-When', outcomes-OneOf'}
use Rattle.fond_ast.proofs.Members.{Member, Member-left, Member-right, Member-cases, Member-map, Member-from_map, Member-flat_map, Member-from_flat_map}
use Rattle.fond_ast.proofs.Tested.{truth-is-tested}

-- some outcome of a list makes a change in a state
abbrev pub Makes : State → List (List Literal) → Change → Type 0
Makes state list change = (outcome : List Literal) × Member list outcome × (change ≡ change_of state outcome)

-- a condition holds or does not hold
decided : (state : State) (env : List ℕ) (condition : LCond) → Holds state env condition ⊎ (¬ Holds state env condition)
decided state env condition = by (holds state env condition) refl
  where
    by : (b : Bool) → holds state env condition ≡ b → Holds state env condition ⊎ (¬ Holds state env condition)
    by true e = inl ((truth-is-tested state env condition).1 e)
    by false e = inr (λ h. false≢true (sym e ∙ (truth-is-tested state env condition).0 h))

not-tested : (state : State) (env : List ℕ) (condition : LCond) → (¬ Holds state env condition) → holds state env condition ≡ false
not-tested state env condition never = by (holds state env condition) refl
  where
    by : (b : Bool) → holds state env condition ≡ b → holds state env condition ≡ false
    by true e = absurd (never ((truth-is-tested state env condition).1 e))
    by false e = e

module _ (state : State) where
  alone-makes : (outcome : List Literal) (change : Change) → change ≡ change_of state outcome → Makes state (outcome ∷ []) change
  alone-makes outcome change e = (outcome, inl refl, e)

  from-alone : (outcome : List Literal) (change : Change) → Makes state (outcome ∷ []) change → change ≡ change_of state outcome
  from-alone outcome change (o, inl same, e) = e ∙ ap (change_of state) same
  from-alone outcome change (o, inr none, e) = absurd none

  both-make : (first : List (List Literal)) (rest : List (List (List Literal))) (change a b : Change) → Makes state first a → Makes state (concatenations rest) b → change ≡ both a b → Makes state (concatenations (first ∷ rest)) change
  both-make first rest change a b (o, in-first, is-a) (p, in-rest, is-b) e = (
    o ++ p,
    Member-flat_map (λ list. map (λ more. list ++ more) (concatenations rest)) first o (o ++ p) in-first (Member-map (λ more. o ++ more) (concatenations rest) p in-rest),
    e ∙ ap (λ x. both x b) is-a ∙ ap (both (change_of state o)) is-b ∙ sym (change-append state o p),
  )

  from-both : (first : List (List Literal)) (rest : List (List (List Literal))) (change : Change) → Makes state (concatenations (first ∷ rest)) change → (a : Change) × (b : Change) × Makes state first a × Makes state (concatenations rest) b × (change ≡ both a b)
  from-both first rest change (o, m, e) =
      let outer = Member-from_flat_map (λ list. map (λ more. list ++ more) (concatenations rest)) first o m in
      let inner = Member-from_map (λ more. outer.0 ++ more) (concatenations rest) o outer.2 in
      (change_of state outer.0, change_of state inner.0, (outer.0, outer.1, refl), (inner.0, inner.1, refl), e ∙ ap (change_of state) inner.2 ∙ change-append state outer.0 inner.0)

  -- a union over lists of objects
  over-make : (G : List ℕ → Change → Type 0) (each : List ℕ → List (List Literal)) → ((objects : List ℕ) (change : Change) → G objects change → Makes state (each objects) change)
      → (all : List (List ℕ)) (change : Change) → IsUnionOver G all change → Makes state (concatenations (map each all)) change
  over-make G each make [] change e = alone-makes [] change e
  over-make G each make (objects ∷ all) change (a, b, first, later, e) = both-make (each objects) (map each all) change a b (make objects a first) (over-make G each make all b later) e

  from-over : (G : List ℕ → Change → Type 0) (each : List ℕ → List (List Literal)) → ((objects : List ℕ) (change : Change) → Makes state (each objects) change → G objects change)
      → (all : List (List ℕ)) (change : Change) → Makes state (concatenations (map each all)) change → IsUnionOver G all change
  from-over G each take [] change made = from-alone [] change made
  from-over G each take (objects ∷ all) change made =
      let parts = from-both (each objects) (map each all) change made in
      (parts.0, parts.1, take objects parts.0 parts.2, from-over G each take all parts.1 parts.3, parts.4)

  moved : (list other : List (List Literal)) (change : Change) → list ≡ other → Makes state other change → Makes state list change
  moved list other change e = subst (λ all. Makes state all change) (sym e)

  under : (guard : Guard) (list : List (List Literal)) (change : Change) → holds state guard.env guard.condition ≡ true → Makes state list change → Makes state (map (map (guarded guard)) list) change
  under guard list change is (o, m, e) = (map (guarded guard) o, Member-map (map (guarded guard)) list o m, e ∙ sym (change-guarded state guard is o))

  barred : (guard : Guard) (list : List (List Literal)) (change : Change) → holds state guard.env guard.condition ≡ false → ((o : List Literal) × Member list o) → change ≡ no_change → Makes state (map (map (guarded guard)) list) change
  barred guard list change is (o, m) e = (map (guarded guard) o, Member-map (map (guarded guard)) list o m, e ∙ sym (change-barred state guard is o))

  from-under : (guard : Guard) (list : List (List Literal)) (change : Change) → holds state guard.env guard.condition ≡ true → Makes state (map (map (guarded guard)) list) change → Makes state list change
  from-under guard list change is (o, m, e) = let inner = Member-from_map (map (guarded guard)) list o m in (inner.0, inner.1, e ∙ ap (change_of state) inner.2 ∙ change-guarded state guard is inner.0)

  from-barred : (guard : Guard) (list : List (List Literal)) (change : Change) → holds state guard.env guard.condition ≡ false → Makes state (map (map (guarded guard)) list) change → change ≡ no_change
  from-barred guard list change is (o, m, e) = let inner = Member-from_map (map (guarded guard)) list o m in e ∙ ap (change_of state) inner.2 ∙ change-barred state guard is inner.0

  mutual
    pub given : (effect : LEffect) (env : List ℕ) (change : Change) → Chooses effect → Gives state env effect change → Makes state (outcomes env effect) change
    given Nothing env change chooses g = moved _ _ change (outcomes-Nothing env) (alone-makes [] change g)
    given (Add atom) env change chooses g = moved _ _ change (outcomes-Add env atom) (alone-makes _ change g)
    given (Delete atom) env change chooses g = moved _ _ change (outcomes-Delete env atom) (alone-makes _ change g)
    given (And' shape row) env change chooses g = moved _ _ change (outcomes-And' env shape row) (given-each row env change chooses g)
    given (Forall' ranges shape part) env change chooses g =
        moved _ _ change (outcomes-Forall' env ranges shape part)
        (over-make (λ objects. Gives state (env ++ objects) part) (λ objects. outcomes (env ++ objects) part) (λ objects one. given part (env ++ objects) one chooses) (tuples (objects_of ranges)) change g)
    given (When' condition shape part) env change chooses (inl (is, g)) =
        moved _ _ change (outcomes-When' env condition shape part) (under _ (outcomes env part) change ((truth-is-tested state env condition).0 is) (given part env change chooses g))
    given (When' condition shape part) env change chooses (inr (never, e)) =
        moved _ _ change (outcomes-When' env condition shape part) (barred _ (outcomes env part) change (not-tested state env condition never) (has-outcome part env chooses) e)
    given (OneOf' shape row) env change chooses g = moved _ _ change (outcomes-OneOf' env shape row) (given-one row env change chooses g)

    given-each : {m : _} (row : Row_of-LEffect m) (env : List ℕ) (change : Change) → ChoosesEach row → GivesEach state env row change → Makes state (concatenations (each_outcomes env row)) change
    given-each end_of-LEffect env change chooses g = alone-makes [] change g
    given-each (more_of-LEffect part rest) env change chooses (a, b, first, others, e) =
        both-make (outcomes env part) (each_outcomes env rest) change a b (given part env a chooses.0 first) (given-each rest env b chooses.1 others) e

    given-one : {m : _} (row : Row_of-LEffect m) (env : List ℕ) (change : Change) → ChoosesSome row → GivesSome state env row change → Makes state (flat_map (λ list. list) (each_outcomes env row)) change
    given-one end_of-LEffect env change chooses g = absurd g
    given-one (more_of-LEffect part rest) env change chooses (inl g) =
        let made = given part env change chooses.0 g in (made.0, Member-left (outcomes env part) _ made.0 made.1, made.2)
    given-one (more_of-LEffect part rest) env change chooses (inr g) =
        let made = given-some rest env change chooses.1 g in (made.0, Member-right (outcomes env part) _ made.0 made.1, made.2)

    given-some : {m : _} (row : Row_of-LEffect m) (env : List ℕ) (change : Change) → ChoosesEach row → GivesSome state env row change → Makes state (flat_map (λ list. list) (each_outcomes env row)) change
    given-some end_of-LEffect env change chooses g = absurd g
    given-some (more_of-LEffect part rest) env change chooses (inl g) =
        let made = given part env change chooses.0 g in (made.0, Member-left (outcomes env part) _ made.0 made.1, made.2)
    given-some (more_of-LEffect part rest) env change chooses (inr g) =
        let made = given-some rest env change chooses.1 g in (made.0, Member-right (outcomes env part) _ made.0 made.1, made.2)

  back : (list other : List (List Literal)) (change : Change) → list ≡ other → Makes state list change → Makes state other change
  back list other change e = subst (λ all. Makes state all change) e

  mutual
    pub gives : (effect : LEffect) (env : List ℕ) (change : Change) → Makes state (outcomes env effect) change → Gives state env effect change
    gives Nothing env change made = from-alone [] change (back _ _ change (outcomes-Nothing env) made)
    gives (Add atom) env change made = from-alone _ change (back _ _ change (outcomes-Add env atom) made)
    gives (Delete atom) env change made = from-alone _ change (back _ _ change (outcomes-Delete env atom) made)
    gives (And' shape row) env change made = gives-each row env change (back _ _ change (outcomes-And' env shape row) made)
    gives (Forall' ranges shape part) env change made =
        from-over (λ objects. Gives state (env ++ objects) part) (λ objects. outcomes (env ++ objects) part) (λ objects one. gives part (env ++ objects) one) (tuples (objects_of ranges)) change
        (back _ _ change (outcomes-Forall' env ranges shape part) made)
    gives (When' condition shape part) env change made =
        let under-it = back _ _ change (outcomes-When' env condition shape part) made in
        elim (decided state env condition) [
          | inl is ↦ inl (is, gives part env change (from-under _ (outcomes env part) change ((truth-is-tested state env condition).0 is) under-it))
          | inr never ↦ inr (never, from-barred _ (outcomes env part) change (not-tested state env condition never) under-it)
        ]
    gives (OneOf' shape row) env change made = gives-some row env change (back _ _ change (outcomes-OneOf' env shape row) made)

    gives-each : {m : _} (row : Row_of-LEffect m) (env : List ℕ) (change : Change) → Makes state (concatenations (each_outcomes env row)) change → GivesEach state env row change
    gives-each end_of-LEffect env change made = from-alone [] change made
    gives-each (more_of-LEffect part rest) env change made =
        let parts = from-both (outcomes env part) (each_outcomes env rest) change made in
        (parts.0, parts.1, gives part env parts.0 parts.2, gives-each rest env parts.1 parts.3, parts.4)

    gives-some : {m : _} (row : Row_of-LEffect m) (env : List ℕ) (change : Change) → Makes state (flat_map (λ list. list) (each_outcomes env row)) change → GivesSome state env row change
    gives-some end_of-LEffect env change (o, m, e) = absurd m
    gives-some (more_of-LEffect part rest) env change (o, m, e) =
        elim (Member-cases (outcomes env part) (flat_map (λ list. list) (each_outcomes env rest)) o m) [ inl h ↦ inl (gives part env change (o, h, e)) | inr h ↦ inr (gives-some rest env change (o, h, e)) ]
