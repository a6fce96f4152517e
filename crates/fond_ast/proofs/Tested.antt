-- A condition holds if and only if the test says so.
use Rattle.std.proofs.Common.{◌≡◌, inl, inr, ℕ, ◌∙◌, ◌||◌, Bool, true, false, not, List, [], ◌∷◌, ◌++◌, map, refl, sym, ap, arith}
use Rattle.std.specs.Prelude.{◌↔◌, ◌==◌, IsTrue}
use Rattle.std.specs.List.{list_all, list_any}
use Rattle.std.specs.FinSet as set
use Rattle.std.proofs.lemmas.Bool.{false≢true}
use Rattle.std.proofs.lemmas.Bool.Decides.{nat_tests}
use Rattle.fond_ast.specs.Ranges.{objects_of}
use Rattle.fond_ast.specs.declared.form.LCond.{LCond, Truth, Holds as HoldsAtom, Equal, And', Or', Not', Imply', Forall', Exists', Row_of-LCond, end_of-LCond, more_of-LCond}
use Rattle.fond_ast.specs.declared.form.LCond.TheBlock.{items-the_row-LCond, items_shown-the_row-LCond-0}
use Rattle.fond_ast.specs.declared.form.LCond.TheOpen.{LCond-F}
use Rattle.fond_ast.specs.declared.form.LCond.TheViews.{out-LCond, outs-Truth, outs-Holds, outs-Equal, outs-And', outs-Or', outs-Not', outs-Imply', outs-Forall', outs-Exists'}
use Rattle.fond_ast.specs.declared.form.LCond.TheFolds.{fold-LCond, fold_out-LCond, map-LCond}
use Rattle.fond_ast.specs.States.{State}
use Rattle.fond_ast.specs.Conditions.{object_of, ground_atom, tuples, Holds, HoldsEach, HoldsSome}
use Rattle.fond_ast.specs.Truths.{holds, holds_step}
use Rattle.fond_ast.specs.Laws.{TruthIsTested}
use Rattle.fond_ast.proofs.Bools.{and-both, and-parts, or-left, or-right, or-cases}
use Rattle.fond_ast.proofs.Members.{Member, Member-from_Contains, Contains-from_Member}

pub all-members : {X : Type 0} (test : X → Bool) (xs : List X) → IsTrue (list_all test xs) → (x : X) → Member xs x → IsTrue (test x)
all-members test [] all x none = absurd none
all-members test (y ∷ xs) all x (inl e) = ap test e ∙ (and-parts (test y) (list_all test xs) all).0
all-members test (y ∷ xs) all x (inr m) = all-members test xs (and-parts (test y) (list_all test xs) all).1 x m

pub members-all : {X : Type 0} (test : X → Bool) (xs : List X) → ((x : X) → Member xs x → IsTrue (test x)) → IsTrue (list_all test xs)
members-all test [] each = refl
members-all test (y ∷ xs) each = and-both (test y) (list_all test xs) (each y (inl refl)) (members-all test xs (λ x m. each x (inr m)))

pub some-member : {X : Type 0} (test : X → Bool) (xs : List X) → IsTrue (list_any test xs) → (x : X) × Member xs x × IsTrue (test x)
some-member test [] some = absurd (false≢true some)
some-member test (y ∷ xs) some =
    elim (or-cases (test y) (list_any test xs) some) [ inl e ↦ (y, inl refl, e) | inr e ↦ (let later = some-member test xs e in (later.0, inr later.1, later.2)) ]

pub member-some : {X : Type 0} (test : X → Bool) (xs : List X) (x : X) → Member xs x → IsTrue (test x) → IsTrue (list_any test xs)
member-some test [] x none is = absurd none
member-some test (y ∷ xs) x (inl e) is = or-left (test y) (list_any test xs) (sym (ap test e) ∙ is)
member-some test (y ∷ xs) x (inr m) is = or-right (test y) (list_any test xs) (member-some test xs x m is)

abbrev tests : State → LCond → List ℕ → Bool
tests state = fold-LCond (List ℕ → Bool) (holds_step state)

holds-at : (state : State) (env : List ℕ) (condition : LCond) (layer : LCond-F LCond) → out-LCond condition ≡ layer → holds state env condition ≡ holds_step state (map-LCond LCond (List ℕ → Bool) (tests state) layer) env
holds-at state env condition layer e =
    ap (λ test. test env) (fold_out-LCond (List ℕ → Bool) (holds_step state) condition) ∙ ap (λ form. holds_step state (map-LCond LCond (List ℕ → Bool) (tests state) form) env) e

abbrev parts-of : {m : _} → State → Row_of-LCond m → List (List ℕ → Bool)
parts-of state row = map (tests state) (items-the_row-LCond _ row)

pub holds-And' : (state : State) (env : List ℕ) (shape : _) (row : Row_of-LCond _) → holds state env (And' shape row) ≡ list_all (λ part. part env) (parts-of state row)
holds-And' state env shape row = holds-at state env _ _ (outs-And' shape row) ∙ ap (λ parts. list_all (λ part. part env) (map (tests state) parts)) (items_shown-the_row-LCond-0 shape row)

pub holds-Or' : (state : State) (env : List ℕ) (shape : _) (row : Row_of-LCond _) → holds state env (Or' shape row) ≡ list_any (λ part. part env) (parts-of state row)
holds-Or' state env shape row = holds-at state env _ _ (outs-Or' shape row) ∙ ap (λ parts. list_any (λ part. part env) (map (tests state) parts)) (items_shown-the_row-LCond-0 shape row)

is-not : (P : Type 0) (b : Bool) → P ↔ IsTrue b → (¬ P) ↔ IsTrue (not b)
is-not P true is = (λ none. absurd (none (is.1 refl)), λ h. absurd (false≢true h))
is-not P false is = (λ none. refl, λ h p. false≢true (is.0 p))

is-imply : (P Q : Type 0) (a b : Bool) → P ↔ IsTrue a → Q ↔ IsTrue b → (P → Q) ↔ IsTrue (not a || b)
is-imply P Q true b left right = (λ f. right.0 (f (left.1 refl)), λ h p. right.1 h)
is-imply P Q false b left right = (λ f. refl, λ h p. absurd (false≢true (left.0 p)))

-- a fact that a test tells, told by an equal test
told : (P : Type 0) (a b : Bool) → a ≡ b → P ↔ IsTrue b → P ↔ IsTrue a
told P a b e is = (λ p. e ∙ is.0 p, λ h. is.1 (sym e ∙ h))

mutual
  tested : (condition : LCond) (state : State) (env : List ℕ) → Holds state env condition ↔ IsTrue (holds state env condition)
  tested Truth state env = told _ _ true (holds-at state env _ _ outs-Truth) (λ h. refl, λ h. tt)
  tested (HoldsAtom atom) state env = told _ _ (set.contains state (ground_atom env atom)) (holds-at state env _ _ (outs-Holds atom)) (λ h. h, λ h. h)
  tested (Equal term other) state env =
      told _ _ (object_of env term == object_of env other) (holds-at state env _ _ (outs-Equal term other)) (λ h. grind (arith, nat_tests, h), λ h. grind (arith, nat_tests, h))
  tested (And' shape row) state env = told _ _ (list_all (λ part. part env) (parts-of state row)) (holds-And' state env shape row) (tested-each row state env)
  tested (Or' shape row) state env = told _ _ (list_any (λ part. part env) (parts-of state row)) (holds-Or' state env shape row) (tested-some row state env)
  tested (Not' shape part) state env = told _ _ (not (holds state env part)) (holds-at state env _ _ (outs-Not' shape part)) (is-not _ _ (tested part state env))
  tested (Imply' shape part shape_of_other other) state env =
      told _ _ (not (holds state env part) || holds state env other) (holds-at state env _ _ (outs-Imply' shape part shape_of_other other)) (is-imply _ _ _ _ (tested part state env) (tested other state env))
  tested (Forall' ranges shape part) state env =
      let all = tuples (objects_of ranges) in
      told _ _ (list_all (λ objects. holds state (env ++ objects) part) all) (holds-at state env _ _ (outs-Forall' ranges shape part)) (
        λ each. members-all (λ objects. holds state (env ++ objects) part) all (λ objects m. (tested part state (env ++ objects)).0 (each objects (Contains-from_Member all objects m))),
        λ h objects is. (tested part state (env ++ objects)).1 (all-members (λ objects. holds state (env ++ objects) part) all h objects (Member-from_Contains all objects is)),
      )
  tested (Exists' ranges shape part) state env =
      let all = tuples (objects_of ranges) in
      told _ _ (list_any (λ objects. holds state (env ++ objects) part) all) (holds-at state env _ _ (outs-Exists' ranges shape part)) (
        λ some. member-some (λ objects. holds state (env ++ objects) part) all some.0 (Member-from_Contains all some.0 some.1) ((tested part state (env ++ some.0)).0 some.2),
        λ h. (let one = some-member (λ objects. holds state (env ++ objects) part) all h in (one.0, Contains-from_Member all one.0 one.1, (tested part state (env ++ one.0)).1 one.2)),
      )

  tested-each : {m : _} (row : Row_of-LCond m) (state : State) (env : List ℕ) → HoldsEach state env row ↔ IsTrue (list_all (λ part. part env) (parts-of state row))
  tested-each end_of-LCond state env = (λ h. refl, λ h. tt)
  tested-each (more_of-LCond part rest) state env =
      let first = tested part state env in
      let later = tested-each rest state env in
      (λ h. and-both _ _ (first.0 h.0) (later.0 h.1), λ h. (let both = and-parts _ _ h in (first.1 both.0, later.1 both.1)))

  tested-some : {m : _} (row : Row_of-LCond m) (state : State) (env : List ℕ) → HoldsSome state env row ↔ IsTrue (list_any (λ part. part env) (parts-of state row))
  tested-some end_of-LCond state env = (λ h. absurd h, λ h. absurd (false≢true h))
  tested-some (more_of-LCond part rest) state env =
      let first = tested part state env in
      let later = tested-some rest state env in
      (λ h. elim h [ inl p ↦ or-left _ _ (first.0 p) | inr p ↦ or-right _ _ (later.0 p) ], λ h. elim (or-cases _ _ h) [ inl p ↦ inl (first.1 p) | inr p ↦ inr (later.1 p) ])

pub truth-is-tested : TruthIsTested
truth-is-tested state env condition = tested condition state env
