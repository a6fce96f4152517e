-- The truth of a condition depends only on the variables and the predicates that occur in it.
use Rattle.std.proofs.Common.{◌≡◌, ◌⊎◌, inl, inr, ℕ, ◌+◌, ◌-◌, ◌<◌, ◌≤◌, ◌∙◌, Bool, List, [], ◌∷◌, ◌++◌, map, length, get_or, refl, sym, ap, subst, arith, length-append}
use Rattle.std.specs.Prelude.{◌==◌, IsTrue}
use Rattle.std.specs.List.{list_any}
use Rattle.std.specs.FinSet as set
use Rattle.std.proofs.Math.ListN.{get_or-append}
use Rattle.std.proofs.Math.Seq.{get_or-append_right}
use Rattle.std.proofs.lemmas.Bool.{cases_lt}
use Rattle.std.proofs.lemmas.Bool.Decides.{nat_tests}
use Rattle.fond_text.specs.declared.atom.Atom.{Atom}
use Rattle.fond_ast.specs.declared.form.LAtom.{LAtom}
use Rattle.fond_ast.specs.declared.form.LTerm.{LTerm}
use Rattle.fond_ast.specs.declared.form.LTerm.TheVariants.{Object, Variable}
use Rattle.fond_ast.specs.declared.form.LCond.{LCond, Truth, Holds as HoldsAtom, Equal, And', Or', Not', Imply', Forall', Exists', Row_of-LCond, end_of-LCond, more_of-LCond}
use Rattle.fond_ast.specs.States.{State}
use Rattle.fond_ast.specs.Conditions.{object_of, ground_atom, Holds, HoldsEach, HoldsSome}
use Rattle.fond_ast.specs.Laws.{has_variable, has_variable_step, has_predicate, has_predicate_step, TruthIsLocal}
use Rattle.fond_ast.specs.Patterns.{is_variable}
use Rattle.fond_ast.proofs.Bools.{or-left, or-right}
use Rattle.fond_ast.proofs.Occurs.{some_passes, of-And', of-Or', of-Not', of-Imply'-left, of-Imply'-right, of-Forall', of-Exists', variables-search, predicates-search, variable-Holds, variable-Equal, predicate-Holds}

-- two states have the same atoms of some predicates, and two lists of objects are equally long and equal at some variables
record Agree (predicates variables : ℕ → Bool) (state other : State) (env around : List ℕ) : Type 0 where
  pub atoms : (atom : Atom) → IsTrue (predicates atom.predicate) → set.contains state atom ≡ set.contains other atom
  pub long : length env ≡ length around
  pub objects : (number : ℕ) → IsTrue (variables number) → get_or env number 0 ≡ get_or around number 0

flipped : (predicates variables : ℕ → Bool) (state other : State) (env around : List ℕ) → Agree predicates variables state other env around → Agree predicates variables other state around env
flipped predicates variables state other env around agree =
    record { atoms = λ atom h. sym (agree.atoms atom h); long = sym agree.long; objects = λ number h. sym (agree.objects number h) }

narrowed : (predicates variables fewer few : ℕ → Bool) (state other : State) (env around : List ℕ) → ((number : ℕ) → IsTrue (fewer number) → IsTrue (predicates number)) → ((number : ℕ) → IsTrue (few number) → IsTrue (variables number))
    → Agree predicates variables state other env around → Agree fewer few state other env around
narrowed predicates variables fewer few state other env around within inside agree =
    record { atoms = λ atom h. agree.atoms atom (within atom.predicate h); long = agree.long; objects = λ number h. agree.objects number (inside number h) }

extended-at : (env around objects : List ℕ) (number : ℕ) → length env ≡ length around → get_or env number 0 ≡ get_or around number 0 → (number < length env) ⊎ (length env ≤ number) → get_or (env ++ objects) number 0 ≡ get_or (around ++ objects) number 0
extended-at env around objects number long same (inl lt) =
    let there : number < length around = omega arith in
    get_or-append env objects 0 number lt ∙ same ∙ sym (get_or-append around objects 0 number there)
extended-at env around objects number long same (inr le) =
    let there : length around ≤ number = omega arith in
    get_or-append_right env objects number 0 le ∙ ap (λ n. get_or objects (number - n) 0) long ∙ sym (get_or-append_right around objects number 0 there)

extended : (predicates variables : ℕ → Bool) (state other : State) (env around objects : List ℕ) → Agree predicates variables state other env around → Agree predicates variables state other (env ++ objects) (around ++ objects)
extended predicates variables state other env around objects agree = record {
  atoms = agree.atoms;
  long = length-append env objects ∙ ap (λ n. n + length objects) agree.long ∙ sym (length-append around objects);
  objects = λ number h. extended-at env around objects number agree.long (agree.objects number h) (cases_lt number (length env));
}

same-object : (env around : List ℕ) (term : LTerm) → ((number : ℕ) → IsTrue (is_variable number term) → get_or env number 0 ≡ get_or around number 0) → object_of env term ≡ object_of around term
same-object env around (Object number) same = refl
same-object env around (Variable number) same = same number (grind (arith, nat_tests))

same-objects : (env around : List ℕ) (terms : List LTerm) → ((number : ℕ) → IsTrue (list_any (is_variable number) terms) → get_or env number 0 ≡ get_or around number 0) → map (object_of env) terms ≡ map (object_of around) terms
same-objects env around [] same = refl
same-objects env around (term ∷ terms) same =
    let first = same-object env around term (λ number h. same number (or-left (is_variable number term) (list_any (is_variable number) terms) h)) in
    let rest = same-objects env around terms (λ number h. same number (or-right (is_variable number term) (list_any (is_variable number) terms) h)) in
    λ i. first i ∷ rest i

abbrev AgreeOn : LCond → State → State → List ℕ → List ℕ → Type 0
AgreeOn condition = Agree (λ number. has_predicate number condition) (λ number. has_variable number condition)

abbrev some_predicate : {m : _} → Row_of-LCond m → ℕ → Bool
some_predicate row number = some_passes (has_predicate_step number) (predicates-search number) row

abbrev some_variable : {m : _} → Row_of-LCond m → ℕ → Bool
some_variable row number = some_passes (has_variable_step number) (variables-search number) row

abbrev AgreeOnRow : {m : _} → Row_of-LCond m → State → State → List ℕ → List ℕ → Type 0
AgreeOnRow row = Agree (some_predicate row) (some_variable row)

local-atom : (atom : LAtom) (state other : State) (env around : List ℕ) → AgreeOn (HoldsAtom atom) state other env around → IsTrue (set.contains state (ground_atom env atom)) → IsTrue (set.contains other (ground_atom around atom))
local-atom atom state other env around agree h =
    let objects = same-objects env around atom.terms (λ number occurs. agree.objects number (variable-Holds number atom ∙ occurs)) in
    let itself : IsTrue (atom.predicate == atom.predicate) = grind (arith, nat_tests) in
    subst (λ list. IsTrue (set.contains other (record { predicate = atom.predicate; objects = list }))) objects (sym (agree.atoms (ground_atom env atom) (predicate-Holds atom.predicate atom ∙ itself)) ∙ h)

same-terms : (term second : LTerm) (state other : State) (env around : List ℕ) → AgreeOn (Equal term second) state other env around → (object_of env term ≡ object_of around term) × (object_of env second ≡ object_of around second)
same-terms term second state other env around agree = (
  same-object env around term (λ number h. agree.objects number (variable-Equal number term second ∙ or-left (is_variable number term) (is_variable number second) h)),
  same-object env around second (λ number h. agree.objects number (variable-Equal number term second ∙ or-right (is_variable number term) (is_variable number second) h)),
)

in-part : (whole part : LCond) (state other : State) (env around : List ℕ) → ((number : ℕ) → IsTrue (has_predicate number part) → IsTrue (has_predicate number whole)) → ((number : ℕ) → IsTrue (has_variable number part) → IsTrue (has_variable number whole))
    → AgreeOn whole state other env around → AgreeOn part state other env around
in-part whole part = narrowed (λ number. has_predicate number whole) (λ number. has_variable number whole) (λ number. has_predicate number part) (λ number. has_variable number part)

in-row : {m : _} (whole : LCond) (row : Row_of-LCond m) (state other : State) (env around : List ℕ) → ((number : ℕ) → IsTrue (some_predicate row number) → IsTrue (has_predicate number whole)) → ((number : ℕ) → IsTrue (some_variable row number) → IsTrue (has_variable number whole))
    → AgreeOn whole state other env around → AgreeOnRow row state other env around
in-row whole row = narrowed (λ number. has_predicate number whole) (λ number. has_variable number whole) (some_predicate row) (some_variable row)

first-of : {m : _} (part : LCond) (rest : Row_of-LCond m) (state other : State) (env around : List ℕ) → AgreeOnRow (more_of-LCond part rest) state other env around → AgreeOn part state other env around
first-of part rest state other env around =
    narrowed (some_predicate (more_of-LCond part rest)) (some_variable (more_of-LCond part rest)) (λ number. has_predicate number part) (λ number. has_variable number part) state other env around
    (λ number. or-left (has_predicate number part) (some_predicate rest number)) (λ number. or-left (has_variable number part) (some_variable rest number))

rest-of : {m : _} (part : LCond) (rest : Row_of-LCond m) (state other : State) (env around : List ℕ) → AgreeOnRow (more_of-LCond part rest) state other env around → AgreeOnRow rest state other env around
rest-of part rest state other env around =
    narrowed (some_predicate (more_of-LCond part rest)) (some_variable (more_of-LCond part rest)) (some_predicate rest) (some_variable rest) state other env around
    (λ number. or-right (has_predicate number part) (some_predicate rest number)) (λ number. or-right (has_variable number part) (some_variable rest number))

mutual
  local : (condition : LCond) (state other : State) (env around : List ℕ) → AgreeOn condition state other env around → Holds state env condition → Holds other around condition
  local Truth state other env around agree h = tt
  local (HoldsAtom atom) state other env around agree h = local-atom atom state other env around agree h
  local (Equal term second) state other env around agree h = let same = same-terms term second state other env around agree in sym same.0 ∙ h ∙ same.1
  local (And' shape row) state other env around agree h =
      local-each row state other env around (in-row (And' shape row) row state other env around (λ n. of-And' (has_predicate_step n) (predicates-search n) shape row) (λ n. of-And' (has_variable_step n) (variables-search n) shape row) agree) h
  local (Or' shape row) state other env around agree h =
      local-some row state other env around (in-row (Or' shape row) row state other env around (λ n. of-Or' (has_predicate_step n) (predicates-search n) shape row) (λ n. of-Or' (has_variable_step n) (variables-search n) shape row) agree) h
  local (Not' shape part) state other env around agree h =
      let within = in-part (Not' shape part) part state other env around (λ n. of-Not' (has_predicate_step n) (predicates-search n) shape part) (λ n. of-Not' (has_variable_step n) (variables-search n) shape part) agree in
      λ holds. h (local part other state around env (flipped _ _ state other env around within) holds)
  local (Imply' shape part shape_of_second second) state other env around agree h =
      let whole = Imply' shape part shape_of_second second in
      let left =
      in-part whole part state other env around (λ n. of-Imply'-left (has_predicate_step n) (predicates-search n) shape part shape_of_second second) (λ n. of-Imply'-left (has_variable_step n) (variables-search n) shape part shape_of_second second) agree in
      let right =
      in-part whole second state other env around (λ n. of-Imply'-right (has_predicate_step n) (predicates-search n) shape part shape_of_second second) (λ n. of-Imply'-right (has_variable_step n) (variables-search n) shape part shape_of_second second) agree in
      λ holds. local second state other env around right (h (local part other state around env (flipped _ _ state other env around left) holds))
  local (Forall' ranges shape part) state other env around agree h =
      let within = in-part (Forall' ranges shape part) part state other env around (λ n. of-Forall' (has_predicate_step n) (predicates-search n) ranges shape part) (λ n. of-Forall' (has_variable_step n) (variables-search n) ranges shape part) agree in
      λ objects fits. local part state other (env ++ objects) (around ++ objects) (extended _ _ state other env around objects within) (h objects fits)
  local (Exists' ranges shape part) state other env around agree (objects, fits, holds) =
      let within = in-part (Exists' ranges shape part) part state other env around (λ n. of-Exists' (has_predicate_step n) (predicates-search n) ranges shape part) (λ n. of-Exists' (has_variable_step n) (variables-search n) ranges shape part) agree in
      (objects, fits, local part state other (env ++ objects) (around ++ objects) (extended _ _ state other env around objects within) holds)

  local-each : {m : _} (row : Row_of-LCond m) (state other : State) (env around : List ℕ) → AgreeOnRow row state other env around → HoldsEach state env row → HoldsEach other around row
  local-each end_of-LCond state other env around agree h = tt
  local-each (more_of-LCond part rest) state other env around agree (first, others) =
      (local part state other env around (first-of part rest state other env around agree) first, local-each rest state other env around (rest-of part rest state other env around agree) others)

  local-some : {m : _} (row : Row_of-LCond m) (state other : State) (env around : List ℕ) → AgreeOnRow row state other env around → HoldsSome state env row → HoldsSome other around row
  local-some end_of-LCond state other env around agree h = absurd h
  local-some (more_of-LCond part rest) state other env around agree (inl h) = inl (local part state other env around (first-of part rest state other env around agree) h)
  local-some (more_of-LCond part rest) state other env around agree (inr h) = inr (local-some rest state other env around (rest-of part rest state other env around agree) h)

pub truth-is-local : TruthIsLocal
truth-is-local condition state other env around atoms variables =
    let agree : AgreeOn condition state other env around = record { atoms = atoms; long = variables.0; objects = variables.1 } in
    (local condition state other env around agree, local condition other state around env (flipped _ _ state other env around agree))
