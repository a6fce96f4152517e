-- Effects whose choices all have members have outcomes.
use Rattle.std.proofs.Common.{◌≡◌, ℕ, ◌∙◌, ◌&&◌, inl, not, Bool, true, false, List, [], ◌∷◌, ◌++◌, map, length, refl, sym, ap, subst}
use Rattle.std.specs.Prelude.{◌==◌, ⊤}
use Rattle.std.specs.List.{flat_map, list_all}
use Rattle.fond_text.specs.Lists.{concatenations}
use Rattle.fond_ast.specs.Ranges.{RangeList, objects_of}
use Rattle.fond_ast.specs.Within.{are_ranges_within, effect_within_step, is_condition_within, is_effect_within}
use Rattle.fond_ast.specs.declared.form.LCond.{LCond}
use Rattle.fond_ast.specs.declared.form.LAtom.{LAtom}
use Rattle.fond_ast.specs.declared.task.LPredicate.{LPredicate}
use Rattle.fond_ast.specs.declared.form.LEffect.{LEffect, Nothing, Add, Delete, And', Forall', When', OneOf', Row_of-LEffect, end_of-LEffect, more_of-LEffect}
use Rattle.fond_ast.specs.declared.form.LEffect.TheBlock.{items-the_row-LEffect, items_shown-the_row-LEffect-0}
use Rattle.fond_ast.specs.declared.form.LEffect.TheOpen.{LEffect-F}
use Rattle.fond_ast.specs.declared.form.LEffect.TheViews.{out-LEffect, outs-Nothing, outs-Add, outs-Delete, outs-And', outs-Forall', outs-When', outs-OneOf'}
use Rattle.fond_ast.specs.declared.form.LEffect.TheFolds.{fold-LEffect, fold_out-LEffect, map-LEffect}
use Rattle.fond_ast.specs.Conditions.{ground_atom, tuples}
use Rattle.fond_ast.specs.Outcomes.{Literal, alone, guarded, outcomes, outcomes_step}
use Rattle.fond_ast.proofs.Bools.{and-parts}
use Rattle.fond_ast.proofs.Members.{Member, Member-map, Member-flat_map, Member-left}

abbrev lists : LEffect → List ℕ → List (List Literal)
lists = fold-LEffect (List ℕ → List (List Literal)) outcomes_step

outcomes-at : (env : List ℕ) (effect : LEffect) (layer : LEffect-F LEffect) → out-LEffect effect ≡ layer → outcomes env effect ≡ outcomes_step (map-LEffect LEffect (List ℕ → List (List Literal)) lists layer) env
outcomes-at env effect layer e =
    ap (λ list. list env) (fold_out-LEffect (List ℕ → List (List Literal)) outcomes_step effect) ∙ ap (λ form. outcomes_step (map-LEffect LEffect (List ℕ → List (List Literal)) lists form) env) e

-- the outcomes of each effect of a row
abbrev pub each_outcomes : {m : _} → List ℕ → Row_of-LEffect m → List (List (List Literal))
each_outcomes env row = map (λ part. part env) (map lists (items-the_row-LEffect _ row))

pub outcomes-Nothing : (env : List ℕ) → outcomes env Nothing ≡ [] ∷ []
outcomes-Nothing env = outcomes-at env _ _ outs-Nothing

pub outcomes-Add : (env : List ℕ) (atom : LAtom) → outcomes env (Add atom) ≡ alone (ground_atom env atom) true
outcomes-Add env atom = outcomes-at env _ _ (outs-Add atom)

pub outcomes-Delete : (env : List ℕ) (atom : LAtom) → outcomes env (Delete atom) ≡ alone (ground_atom env atom) false
outcomes-Delete env atom = outcomes-at env _ _ (outs-Delete atom)

pub outcomes-And' : (env : List ℕ) (shape : _) (row : Row_of-LEffect _) → outcomes env (And' shape row) ≡ concatenations (each_outcomes env row)
outcomes-And' env shape row = outcomes-at env _ _ (outs-And' shape row) ∙ ap (λ parts. concatenations (map (λ part. part env) (map lists parts))) (items_shown-the_row-LEffect-0 shape row)

pub outcomes-Forall' : (env : List ℕ) (ranges : RangeList) (shape : _) (part : LEffect) → outcomes env (Forall' ranges shape part) ≡ concatenations (map (λ objects. outcomes (env ++ objects) part) (tuples (objects_of ranges)))
outcomes-Forall' env ranges shape part = outcomes-at env _ _ (outs-Forall' ranges shape part)

pub outcomes-When' : (env : List ℕ) (condition : LCond) (shape : _) (part : LEffect) → outcomes env (When' condition shape part) ≡ map (map (guarded (record { env = env; condition = condition }))) (outcomes env part)
outcomes-When' env condition shape part = outcomes-at env _ _ (outs-When' condition shape part)

pub outcomes-OneOf' : (env : List ℕ) (shape : _) (row : Row_of-LEffect _) → outcomes env (OneOf' shape row) ≡ flat_map (λ list. list) (each_outcomes env row)
outcomes-OneOf' env shape row =
    outcomes-at env _ _ (outs-OneOf' shape row) ∙ ap (λ parts. flat_map (λ part. part env) (map lists parts)) (items_shown-the_row-LEffect-0 shape row) ∙ applied (map lists (items-the_row-LEffect _ row))
  where
    applied : (parts : List (List ℕ → List (List Literal))) → flat_map (λ part. part env) parts ≡ flat_map (λ list. list) (map (λ part. part env) parts)
    applied [] = refl
    applied (part ∷ parts) = ap (λ rest. part env ++ rest) (applied parts)

-- each choice in an effect has a member
abbrev mutual
  pub Chooses : LEffect → Type 0
  Chooses Nothing = ⊤
  Chooses (Add atom) = ⊤
  Chooses (Delete atom) = ⊤
  Chooses (And' shape row) = ChoosesEach row
  Chooses (Forall' ranges shape part) = Chooses part
  Chooses (When' condition shape part) = Chooses part
  Chooses (OneOf' shape row) = ChoosesSome row

  pub ChoosesEach : {m : _} → Row_of-LEffect m → Type 0
  ChoosesEach end_of-LEffect = ⊤
  ChoosesEach (more_of-LEffect part rest) = Chooses part × ChoosesEach rest

  pub ChoosesSome : {m : _} → Row_of-LEffect m → Type 0
  ChoosesSome end_of-LEffect = ⊥
  ChoosesSome (more_of-LEffect part rest) = Chooses part × ChoosesEach rest

-- an effect whose choices all have members has an outcome
abbrev HasOutcome : List ℕ → LEffect → Type 0
HasOutcome env effect = (outcome : List Literal) × Member (outcomes env effect) outcome

joined-outcome : (first : List (List Literal)) (rest : List (List (List Literal))) → ((o : List Literal) × Member first o) → ((o : List Literal) × Member (concatenations rest) o) → (o : List Literal) × Member (concatenations (first ∷ rest)) o
joined-outcome first rest (a, in-first) (b, in-rest) = (a ++ b, Member-flat_map (λ list. map (λ more. list ++ more) (concatenations rest)) first a (a ++ b) in-first (Member-map (λ more. a ++ more) (concatenations rest) b in-rest))

over-outcome : (each : List ℕ → List (List Literal)) → ((objects : List ℕ) → (o : List Literal) × Member (each objects) o) → (all : List (List ℕ)) → (o : List Literal) × Member (concatenations (map each all)) o
over-outcome each some [] = ([], inl refl)
over-outcome each some (objects ∷ all) = joined-outcome (each objects) (map each all) (some objects) (over-outcome each some all)

moved : (env : List ℕ) (effect : LEffect) (list : List (List Literal)) → outcomes env effect ≡ list → ((o : List Literal) × Member list o) → HasOutcome env effect
moved env effect list e (o, m) = (o, subst (λ all. Member all o) (sym e) m)

mutual
  pub has-outcome : (effect : LEffect) (env : List ℕ) → Chooses effect → HasOutcome env effect
  has-outcome Nothing env chooses = moved env _ _ (outcomes-Nothing env) ([], inl refl)
  has-outcome (Add atom) env chooses = moved env _ _ (outcomes-Add env atom) (_, inl refl)
  has-outcome (Delete atom) env chooses = moved env _ _ (outcomes-Delete env atom) (_, inl refl)
  has-outcome (And' shape row) env chooses = moved env _ _ (outcomes-And' env shape row) (each-outcome row env chooses)
  has-outcome (Forall' ranges shape part) env chooses =
      moved env _ _ (outcomes-Forall' env ranges shape part) (over-outcome (λ objects. outcomes (env ++ objects) part) (λ objects. has-outcome part (env ++ objects) chooses) (tuples (objects_of ranges)))
  has-outcome (When' condition shape part) env chooses =
      let some = has-outcome part env chooses in moved env _ _ (outcomes-When' env condition shape part) (_, Member-map (map (guarded _)) (outcomes env part) some.0 some.1)
  has-outcome (OneOf' shape row) env chooses = moved env _ _ (outcomes-OneOf' env shape row) (some-outcome row env chooses)

  each-outcome : {m : _} (row : Row_of-LEffect m) (env : List ℕ) → ChoosesEach row → (o : List Literal) × Member (concatenations (each_outcomes env row)) o
  each-outcome end_of-LEffect env chooses = ([], inl refl)
  each-outcome (more_of-LEffect part rest) env chooses = joined-outcome (outcomes env part) (each_outcomes env rest) (has-outcome part env chooses.0) (each-outcome rest env chooses.1)

  some-outcome : {m : _} (row : Row_of-LEffect m) (env : List ℕ) → ChoosesSome row → (o : List Literal) × Member (flat_map (λ list. list) (each_outcomes env row)) o
  some-outcome end_of-LEffect env chooses = absurd chooses
  some-outcome (more_of-LEffect part rest) env chooses = let first = has-outcome part env chooses.0 in (first.0, Member-left (outcomes env part) _ first.0 first.1)

-- an effect that is within has members in its choices
module _ (count : ℕ) (predicates : List LPredicate) where
  abbrev within : LEffect → List (List ℕ) → Bool
  within = fold-LEffect (List (List ℕ) → Bool) (effect_within_step count predicates)

  within-at : (effect : LEffect) (layer : LEffect-F LEffect) (around : List (List ℕ)) → out-LEffect effect ≡ layer → within effect around ≡ effect_within_step count predicates (map-LEffect LEffect (List (List ℕ) → Bool) within layer) around
  within-at effect layer around e =
      ap (λ test. test around) (fold_out-LEffect (List (List ℕ) → Bool) (effect_within_step count predicates) effect)
      ∙ ap (λ form. effect_within_step count predicates (map-LEffect LEffect (List (List ℕ) → Bool) within form) around) e

  abbrev each_within : {m : _} → Row_of-LEffect m → List (List ℕ) → Bool
  each_within row around = list_all (λ part. part around) (map within (items-the_row-LEffect _ row))

  mutual
    pub chooses : (effect : LEffect) (around : List (List ℕ)) → is_effect_within count predicates effect around ≡ true → Chooses effect
    chooses Nothing around is = tt
    chooses (Add atom) around is = tt
    chooses (Delete atom) around is = tt
    chooses (And' shape row) around is =
        chooses-each row around (sym (within-at _ _ around (outs-And' shape row) ∙ ap (λ parts. list_all (λ part. part around) (map within parts)) (items_shown-the_row-LEffect-0 shape row)) ∙ is)
    chooses (Forall' ranges shape part) around is =
        chooses part (around ++ objects_of ranges) (and-parts (are_ranges_within count ranges) (within part (around ++ objects_of ranges)) (sym (within-at _ _ around (outs-Forall' ranges shape part)) ∙ is)).1
    chooses (When' condition shape part) around is =
        chooses part around (and-parts (is_condition_within count predicates condition around) (within part around) (sym (within-at _ _ around (outs-When' condition shape part)) ∙ is)).1
    chooses (OneOf' shape row) around is =
        chooses-some row around (sym (within-at _ _ around (outs-OneOf' shape row)
        ∙ ap (λ parts. not (length (map within parts) == 0) && list_all (λ part. part around) (map within parts)) (items_shown-the_row-LEffect-0 shape row)) ∙ is)

    chooses-each : {m : _} (row : Row_of-LEffect m) (around : List (List ℕ)) → each_within row around ≡ true → ChoosesEach row
    chooses-each end_of-LEffect around is = tt
    chooses-each (more_of-LEffect part rest) around is = let both = and-parts (within part around) (each_within rest around) is in (chooses part around both.0, chooses-each rest around both.1)

    chooses-some : {m : _} (row : Row_of-LEffect m) (around : List (List ℕ)) → (not (length (map within (items-the_row-LEffect _ row)) == 0) && each_within row around) ≡ true → ChoosesSome row
    chooses-some end_of-LEffect around is = cc
    chooses-some (more_of-LEffect part rest) around is =
        let all = and-parts _ (each_within (more_of-LEffect part rest) around) is in
        let both = and-parts (within part around) (each_within rest around) all.1 in
        (chooses part around both.0, chooses-each rest around both.1)
