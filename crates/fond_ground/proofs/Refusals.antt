-- Faults of tasks that are too large.
use Rattle.std.proofs.Common.{◌≡◌, inl, inr, ℕ, ◌<◌, ◌≤◌, ◌∙◌, ◌&&◌, nat_le, Bool, true, false, List, [], ◌∷◌, length, refl, sym, ap, subst, arith}
use Rattle.std.specs.List.{list_all}
use Rattle.std.proofs.lemmas.Bool.Decides.{nat_tests}
use Rattle.fond_text.specs.Lists.{Somewhere}
use Rattle.fond_text.specs.declared.code.TheConstants.{MOST_ACTIONS, MOST_ATOMS, MOST_OUTCOMES, TOO_MANY_ACTIONS, TOO_MANY_ATOMS}
use Rattle.fond_text.specs.declared.fault.Fault.{Fault}
use Rattle.fond_ast.specs.declared.task.LSchema.{LSchema}
use Rattle.fond_ast.specs.declared.task.LiftedTask.{LiftedTask}
use Rattle.fond_join.specs.Kept.{kept_args}
use Rattle.fond_ast.specs.Outcomes.{outcomes}
use Rattle.fond_ast.proofs.Bools.{and-parts}
use Rattle.fond_ast.proofs.Members.{Member, Member-from_Contains, Contains-from_Member, Member-right}
use Rattle.fond_ground.specs.Atoms.{fluent_atoms}
use Rattle.fond_ground.specs.Faults.{at_domain, HasManyActions, HasManyAtoms, HasManyOutcomes, IsGroundFault, many_atoms, many_actions, many_outcomes}
use Rattle.fond_ground.specs.Grounds.{kept_actions}
use Rattle.fond_ground.specs.Limits.{has_few, has_few_outcomes, IsFirstMany}

member-passes : {X : Type 0} (test : X → Bool) (xs : List X) (x : X) → list_all test xs ≡ true → Member xs x → test x ≡ true
member-passes test [] x all m = absurd m
member-passes test (y ∷ xs) x all (inl e) = ap test e ∙ (and-parts (test y) (list_all test xs) all).0
member-passes test (y ∷ xs) x all (inr m) = member-passes test xs x (and-parts (test y) (list_all test xs) all).1 m

member-fails : {X : Type 0} (test : X → Bool) (xs : List X) → list_all test xs ≡ false → (x : X) × Member xs x × (test x ≡ false)
member-fails test [] none = absurd (cc)
member-fails test (y ∷ xs) none = by (test y) refl none (member-fails test xs)
  where
    by : (b : Bool) → test y ≡ b → (b && list_all test xs) ≡ false → (list_all test xs ≡ false → (x : _) × Member xs x × (test x ≡ false)) → (x : _) × Member (y ∷ xs) x × (test x ≡ false)
    by true is none later = let rest = later none in (rest.0, inr rest.1, rest.2)
    by false is none later = (y, inl refl, is)

few_not_many : (task : LiftedTask) (schema : LSchema) → has_few_outcomes task schema ≡ true → ¬ HasManyOutcomes task schema
few_not_many task schema few many =
    let test : nat_le (length (outcomes many.0 schema.effect)) MOST_OUTCOMES ≡ true = member-passes (has_few schema.effect) (kept_args task schema) many.0 few (Member-from_Contains (kept_args task schema) many.0 many.1) in
    let more = many.2 in
    let less : length (outcomes many.0 schema.effect) ≤ MOST_OUTCOMES = grind (arith, nat_tests, test) in
    absurd (omega (arith, more, less))

many_if_not_few : (task : LiftedTask) (schema : LSchema) → has_few_outcomes task schema ≡ false → HasManyOutcomes task schema
many_if_not_few task schema none =
    let one = member-fails (has_few schema.effect) (kept_args task schema) none in
    let test : nat_le (length (outcomes one.0 schema.effect)) MOST_OUTCOMES ≡ false = one.2 in
    (one.0, Contains-from_Member (kept_args task schema) one.0 one.1, (let more : MOST_OUTCOMES < length (outcomes one.0 schema.effect) = grind (arith, nat_tests, test) in more))

few_has : (n most : ℕ) → n ≤ most → ¬ most < n
few_has n most le lt = absurd (omega (arith, le, lt))

pub refused_atoms : (task : LiftedTask) (fault : Fault) → (fault ≡ at_domain task.place TOO_MANY_ATOMS) × HasManyAtoms task → IsGroundFault task fault
refused_atoms task fault h = subst (IsGroundFault task) (sym h.0) (many_atoms h.1)

pub refused_actions : (task : LiftedTask) → length (fluent_atoms task) ≤ MOST_ATOMS → (fault : Fault) → (fault ≡ at_domain task.place TOO_MANY_ACTIONS) × HasManyActions task → IsGroundFault task fault
refused_actions task few fault h = subst (IsGroundFault task) (sym h.0) (many_actions (few_has _ _ few) h.1)

pub refused_outcomes : (task : LiftedTask) → length (fluent_atoms task) ≤ MOST_ATOMS → length (kept_actions task) ≤ MOST_ACTIONS → (fault : Fault) → Somewhere (IsFirstMany task fault) task.schemas → IsGroundFault task fault
refused_outcomes task few fewer fault h =
    let has = h.has in
    subst (IsGroundFault task) (sym has.2)
    (many_outcomes h.item.place (few_has _ _ few) (few_has _ _ fewer)
    (record {
      before = h.before;
      item = h.item;
      after = h.after;
      split = h.split;
      has = (λ other m. few_not_many task other (member-passes (has_few_outcomes task) h.before other has.0 (Member-from_Contains h.before other m)), many_if_not_few task h.item has.1, refl);
    }))

pub no_fault : (task : LiftedTask) → length (fluent_atoms task) ≤ MOST_ATOMS → length (kept_actions task) ≤ MOST_ACTIONS → list_all (has_few_outcomes task) task.schemas ≡ true → (fault : Fault) → ¬ IsGroundFault task fault
no_fault task few fewer all fault (many_atoms h) = few_has _ _ few h
no_fault task few fewer all fault (many_actions none h) = few_has _ _ fewer h
no_fault task few fewer all fault (many_outcomes place none nor h) =
    let member : Member task.schemas h.item = subst (λ schemas. Member schemas h.item) (sym h.split) (Member-right h.before (h.item ∷ h.after) h.item (inl refl)) in
    few_not_many task h.item (member-passes (has_few_outcomes task) task.schemas h.item all member) h.has.1
