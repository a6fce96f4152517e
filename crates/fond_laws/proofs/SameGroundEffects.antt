-- Effects that are alike have outcomes that are alike.
use Rattle.std.proofs.Common.{◌≡◌, ℕ, ◌∙◌, Bool, true, false, List, ◌++◌, map, refl, sym, ap, subst}
use Rattle.std.specs.List.{AllZip}
use Rattle.fond_text.specs.Lists.{concatenations}
use Rattle.fond_text.specs.declared.atom.Atom.{Atom}
use Rattle.fond_ast.specs.Ranges.{objects_of}
use Rattle.fond_ast.specs.declared.form.LCond.{LCond}
use Rattle.fond_ast.specs.declared.form.LEffect.{LEffect, Nothing, Add, Delete, And', Forall', When', OneOf', Row_of-LEffect, end_of-LEffect, more_of-LEffect}
use Rattle.fond_ast.specs.Conditions.{ground_atom, tuples}
use Rattle.fond_ast.specs.Outcomes.{Guard, Literal, alone, guarded, outcomes}
use Rattle.fond_ast.proofs.Choosing.{each_outcomes, outcomes-Nothing, outcomes-Add, outcomes-Delete, outcomes-And', outcomes-Forall', outcomes-When', outcomes-OneOf'}
use Rattle.fond_ground.proofs.Zips.{zip-concatenations, zip-flat, zip-map}
use Rattle.fond_laws.specs.Lifted.{AreSameEffects, IsSameCondition, IsSameEffect}
use Rattle.fond_laws.proofs.SameLists.{zip-same}

-- two guards have the same objects, and conditions that are alike
pub record IsSameGuard (guard other : Guard) : Type 0 where
  pub env : guard.env ≡ other.env
  pub condition : IsSameCondition guard.condition other.condition

-- two literals have the same atom and sign, and guards that are alike
pub record IsSameLiteral (literal other : Literal) : Type 0 where
  pub guards : AllZip IsSameGuard literal.guards other.guards
  pub atom : literal.atom ≡ other.atom
  pub add : literal.add ≡ other.add

-- two lists of outcomes are alike, outcome by outcome and literal by literal
abbrev pub AreSameOutcomes : List (List Literal) → List (List Literal) → Type 0
AreSameOutcomes = AllZip (AllZip IsSameLiteral)

-- lists of outcomes that are equal to some that are alike are alike
outcomes_between : (one two first second : List (List Literal)) → one ≡ first → two ≡ second → AreSameOutcomes first second → AreSameOutcomes one two
outcomes_between one two first second p q same = subst (λ lists. AreSameOutcomes one lists) (sym q) (subst (λ lists. AreSameOutcomes lists second) (sym p) same)

-- the outcomes of literals with the same atom are alike
same_alone : (atom other : Atom) (add : Bool) → atom ≡ other → AreSameOutcomes (alone atom add) (alone other add)
same_alone atom other add same = ((record { guards = tt; atom = same; add = refl }, tt), tt)

-- outcomes that are alike are alike under conditions that are alike
same_guarded : (env : List ℕ) (condition other : LCond) → IsSameCondition condition other → (lists others : List (List Literal)) → AreSameOutcomes lists others
    → AreSameOutcomes (map (map (guarded (record { env = env; condition = condition }))) lists) (map (map (guarded (record { env = env; condition = other }))) others)
same_guarded env condition other same lists others alike =
    let under : Literal → Literal = guarded (record { env = env; condition = condition }) in
    let beside : Literal → Literal = guarded (record { env = env; condition = other }) in
    zip-map (AllZip IsSameLiteral) (AllZip IsSameLiteral) (map under) (map beside)
    (λ list twin. zip-map IsSameLiteral IsSameLiteral under beside (λ literal also h. record { guards = (record { env = refl; condition = same }, h.guards); atom = h.atom; add = h.add }) list twin)
    lists others alike

mutual
  -- effects that are alike have outcomes that are alike
  pub same_outcomes : (effect other : LEffect) → IsSameEffect effect other → (env : List ℕ) → AreSameOutcomes (outcomes env effect) (outcomes env other)
  same_outcomes Nothing Nothing same env = outcomes_between _ _ _ _ (outcomes-Nothing env) (outcomes-Nothing env) (tt, tt)
  same_outcomes (Add atom) (Add number) same env = outcomes_between _ _ _ _ (outcomes-Add env atom) (outcomes-Add env number) (same_alone (ground_atom env atom) (ground_atom env number) true (ap (ground_atom env) same))
  same_outcomes (Delete atom) (Delete number) same env =
      outcomes_between _ _ _ _ (outcomes-Delete env atom) (outcomes-Delete env number) (same_alone (ground_atom env atom) (ground_atom env number) false (ap (ground_atom env) same))
  same_outcomes (And' shape parts) (And' form others) same env =
      outcomes_between _ _ _ _ (outcomes-And' env shape parts) (outcomes-And' env form others) (zip-concatenations IsSameLiteral (each_outcomes env parts) (each_outcomes env others) (same_each parts others same env))
  same_outcomes (Forall' ranges shape part) (Forall' others form other) same env =
      let first : List ℕ → List (List Literal) = λ objects. outcomes (env ++ objects) part in
      let second : List ℕ → List (List Literal) = λ objects. outcomes (env ++ objects) other in
      let over : AreSameOutcomes (concatenations (map first (tuples (objects_of ranges)))) (concatenations (map second (tuples (objects_of ranges)))) =
      zip-concatenations IsSameLiteral (map first (tuples (objects_of ranges))) (map second (tuples (objects_of ranges)))
      (zip-same AreSameOutcomes first second (λ objects. same_outcomes part other same.1 (env ++ objects)) (tuples (objects_of ranges))) in
      outcomes_between _ _ _ _ (outcomes-Forall' env ranges shape part) (outcomes-Forall' env others form other ∙ ap (λ lists. concatenations (map second (tuples lists))) (sym same.0)) over
  same_outcomes (When' condition shape part) (When' over form other) same env =
      outcomes_between _ _ _ _ (outcomes-When' env condition shape part) (outcomes-When' env over form other)
      (same_guarded env condition over same.0 (outcomes env part) (outcomes env other) (same_outcomes part other same.1 env))
  same_outcomes (OneOf' shape parts) (OneOf' form others) same env =
      outcomes_between _ _ _ _ (outcomes-OneOf' env shape parts) (outcomes-OneOf' env form others)
      (zip-flat AreSameOutcomes (AllZip IsSameLiteral) (λ list. list) (λ list. list) (λ list twin alike. alike) (each_outcomes env parts) (each_outcomes env others) (same_each parts others same env))
  same_outcomes effect other same env = absurd same

  -- effects that are alike place by place have outcomes that are alike place by place
  same_each : {m n : _} (row : Row_of-LEffect m) (others : Row_of-LEffect n) → AreSameEffects row others → (env : List ℕ) → AllZip AreSameOutcomes (each_outcomes env row) (each_outcomes env others)
  same_each end_of-LEffect end_of-LEffect same env = tt
  same_each end_of-LEffect (more_of-LEffect other others) same env = absurd same
  same_each (more_of-LEffect part rest) end_of-LEffect same env = absurd same
  same_each (more_of-LEffect part rest) (more_of-LEffect other others) same env = (same_outcomes part other same.0 env, same_each rest others same.1 env)
