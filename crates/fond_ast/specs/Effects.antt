-- What effects give in a state, where the variables around them have objects.
use Rattle.std.specs.Prelude.{◌≡◌, ◌⊎◌, ℕ, List, [], ◌∷◌, ◌++◌}
use Rattle.std.specs.FinSet as set
use Rattle.fond_ast.specs.Ranges.{objects_of}
use Rattle.fond_ast.specs.declared.form.LEffect.{LEffect, Nothing, Add, Delete, And', Forall', When', OneOf', Row_of-LEffect, end_of-LEffect, more_of-LEffect}
use Rattle.fond_ast.specs.States.{AtomSet, State, no_atoms, only}
use Rattle.fond_ast.specs.Conditions.{ground_atom, tuples, Holds}

-- the atoms that are deleted and the atoms that are added
pub record Change : Type 0 where
  pub del : AtomSet
  pub add : AtomSet

-- the change that deletes and adds nothing
abbrev pub no_change : Change
no_change = record { del = no_atoms; add = no_atoms }

-- the union of two changes
abbrev pub both : Change → Change → Change
both a b = record { del = set.union a.del b.del; add = set.union a.add b.add }

-- a change is the union of one change for each of some lists of objects
abbrev pub IsUnionOver : (List ℕ → Change → Type 0) → List (List ℕ) → Change → Type 0
IsUnionOver Gives [] change = change ≡ no_change
IsUnionOver Gives (objects ∷ rest) change = (a : Change) × (b : Change) × Gives objects a × IsUnionOver Gives rest b × (change ≡ both a b)

-- an effect may give a change in a state, where these are the objects of the variables around it, the outermost first: a
-- literal gives itself, a conjunction the union of one change of each part, a quantified effect the union of one change of
-- its part for each list of objects of its ranges, a conditional effect what its part gives if its condition holds and
-- nothing if not, and a choice what some member gives
abbrev mutual
  pub Gives : State → List ℕ → LEffect → Change → Type 0
  Gives state env Nothing change = change ≡ no_change
  Gives state env (Add atom) change = change ≡ record { del = no_atoms; add = only (ground_atom env atom) }
  Gives state env (Delete atom) change = change ≡ record { del = only (ground_atom env atom); add = no_atoms }
  Gives state env (And' shape parts) change = GivesEach state env parts change
  Gives state env (Forall' ranges shape part) change = IsUnionOver (λ objects. Gives state (env ++ objects) part) (tuples (objects_of ranges)) change
  Gives state env (When' condition shape part) change = (Holds state env condition × Gives state env part change) ⊎ ((¬ Holds state env condition) × (change ≡ no_change))
  Gives state env (OneOf' shape parts) change = GivesSome state env parts change

  pub GivesEach : {m : _} → State → List ℕ → Row_of-LEffect m → Change → Type 0
  GivesEach state env end_of-LEffect change = change ≡ no_change
  GivesEach state env (more_of-LEffect part rest) change = (a : Change) × (b : Change) × Gives state env part a × GivesEach state env rest b × (change ≡ both a b)

  pub GivesSome : {m : _} → State → List ℕ → Row_of-LEffect m → Change → Type 0
  GivesSome state env end_of-LEffect change = ⊥
  GivesSome state env (more_of-LEffect part rest) change = Gives state env part change ⊎ GivesSome state env rest change

-- the state without the deleted atoms, and then with the added ones; so an add wins over a delete
abbrev pub after : State → Change → State
after state change = set.union (set.difference state change.del) change.add
