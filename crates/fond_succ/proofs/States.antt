-- The states for which truth values of the fluent atoms stand.
use Rattle.std.proofs.Common.{◌≡◌, ℕ, zero, suc, inl, inr, List, [], ◌∷◌, Bool, true, false, not, ◌||◌, Some, None, map, length, refl, sym, ap, ◌∙◌, arith}
use Rattle.std.specs.Prelude.{slice_get, IsTrue}
use Rattle.std.specs.FinSet as set
use Rattle.std.proofs.lemmas.Bool.{false≢true, not-true, both_ways, or_cases, or_left, or_right, not_from_false, false_from_ne_true}
use Rattle.std.proofs.lemmas.Option.{none-some, same_Some}
use Rattle.fond_text.specs.declared.atom.Atom.{Atom}
use Rattle.fond_ast.specs.Within.{is_fluent}
use Rattle.fond_ast.specs.declared.task.LiftedTask.{LiftedTask}
use Rattle.fond_ast.specs.States.{State, atoms_of}
use Rattle.fond_ast.specs.Solutions.{initial}
use Rattle.fond_ast.proofs.Atoms.{atom_cmp_total, states-are-their-atoms}
use Rattle.fond_ast.proofs.Members.{Member}
use Rattle.fond_state.specs.Cubes.{truth_at}
use Rattle.fond_task.specs.Distinct.{are_distinct_atoms}
use Rattle.fond_ground.specs.Atoms.{atom_number, fluent_atoms}
use Rattle.fond_succ.specs.Stands.{restrict, stands, static_atoms, true_atoms}
use Rattle.fond_succ.proofs.Lists.{Member-at}
use Rattle.fond_succ.proofs.Firsts.{same_tests, some_or_none, Member-filter, Member-from_filter}
use Rattle.fond_succ.proofs.Atoms.{atom-at, fluent_has, in_atoms_of, initial_fluent, no_number, number-at}

-- the true atoms are those at the places that have the value true
true_place : (atoms : List Atom) (values : List Bool) (atom : Atom) → Member (true_atoms atoms values) atom → (i : ℕ) × (slice_get atoms i ≡ Some atom) × IsTrue (truth_at values i)
true_place [] values atom none = absurd none
true_place (first ∷ atoms) [] atom none = absurd none
true_place (first ∷ atoms) (true ∷ values) atom (inl e) = (zero, ap Some (sym e), refl)
true_place (first ∷ atoms) (true ∷ values) atom (inr m) = let later = true_place atoms values atom m in (suc later.0, later.1, later.2)
true_place (first ∷ atoms) (false ∷ values) atom m = let later = true_place atoms values atom m in (suc later.0, later.1, later.2)

place_true : (atoms : List Atom) (values : List Bool) (i : ℕ) (atom : Atom) → slice_get atoms i ≡ Some atom → IsTrue (truth_at values i) → Member (true_atoms atoms values) atom
place_true [] values i atom at is = absurd (none-some atom at)
place_true (first ∷ atoms) [] i atom at is = absurd (false≢true (nothing i is))
  where
    nothing : (i : ℕ) → IsTrue (truth_at [] i) → IsTrue false
    nothing i is = is
place_true (first ∷ atoms) (true ∷ values) zero atom at is = inl (sym (same_Some first atom at))
place_true (first ∷ atoms) (false ∷ values) zero atom at is = absurd (false≢true is)
place_true (first ∷ atoms) (true ∷ values) (suc i) atom at is = inr (place_true atoms values i atom at is)
place_true (first ∷ atoms) (false ∷ values) (suc i) atom at is = place_true atoms values i atom at is

-- the truth value of an atom is what a function gives to it, if the truth values are those of the function
truth-map : (test : Atom → Bool) (atoms : List Atom) (i : ℕ) (atom : Atom) → slice_get atoms i ≡ Some atom → truth_at (map test atoms) i ≡ test atom
truth-map test [] i atom at = absurd (none-some atom at)
truth-map test (first ∷ atoms) zero atom at = ap test (same_Some first atom at)
truth-map test (first ∷ atoms) (suc i) atom at = truth-map test atoms i atom at

map-truth : (test : Atom → Bool) (atoms : List Atom) (values : List Bool) → length values ≡ length atoms → ((i : ℕ) (atom : Atom) → slice_get atoms i ≡ Some atom → test atom ≡ truth_at values i) → map test atoms ≡ values
map-truth test [] [] long each = refl
map-truth test [] (value ∷ values) long each = absurd (omega (arith, long))
map-truth test (atom ∷ atoms) [] long each = absurd (omega (arith, long))
map-truth test (atom ∷ atoms) (value ∷ values) long each = λ k. each 0 atom refl k ∷ map-truth test atoms values (omega (arith, long)) (λ i other at. each (suc i) other at) k

module _ (task : LiftedTask) (distinct : IsTrue (are_distinct_atoms (fluent_atoms task))) where
  in_stands : (values : List Bool) (atom : Atom) → set.contains (stands task values) atom ≡ (set.contains (atoms_of (true_atoms (fluent_atoms task) values)) atom || set.contains (atoms_of (static_atoms task)) atom)
  in_stands values atom = set.contains-union atom_cmp_total (atoms_of (true_atoms (fluent_atoms task) values)) (atoms_of (static_atoms task)) atom

  static_has : (atom : Atom) → IsTrue (set.contains (atoms_of (static_atoms task)) atom) → Member task.init atom × (is_fluent task.predicates atom.predicate ≡ false)
  static_has atom has =
      let one = Member-from_filter (λ (one : Atom). not (is_fluent task.predicates one.predicate)) task.init atom ((in_atoms_of (static_atoms task) atom).0 has) in
      (one.0, not-true _ one.1)

  -- a numbered atom is in the state for which truth values stand if and only if its value is true
  pub numbered_stands : (values : List Bool) (atom : Atom) (n : ℕ) → slice_get (fluent_atoms task) n ≡ Some atom → set.contains (stands task values) atom ≡ truth_at values n
  numbered_stands values atom n at = same_tests _ _
      (λ has. elim (or_cases _ _ (sym (in_stands values atom) ∙ has)) [
        | inl one ↦ (let place = true_place (fluent_atoms task) values atom ((in_atoms_of _ atom).0 one) in
            let same : place.0 ≡ n = same_Some _ _ (sym (number-at task distinct atom place.0 place.1) ∙ number-at task distinct atom n at) in
            ap (truth_at values) (sym same) ∙ place.2)
        | inr static ↦ absurd (both_ways _ (static_has atom static).1 (fluent_has task atom (Member-at (fluent_atoms task) n atom at)))
      ])
      (λ is. in_stands values atom ∙ or_left _ _ ((in_atoms_of _ atom).1 (place_true (fluent_atoms task) values n atom at is)))

  -- an atom without a number is in the state if and only if it is an initial atom
  pub static_stands : (values : List Bool) (atom : Atom) → atom_number task atom ≡ None → set.contains (stands task values) atom ≡ set.contains (initial task) atom
  static_stands values atom none = same_tests _ _
      (λ has. elim (or_cases _ _ (sym (in_stands values atom) ∙ has)) [
        | inl one ↦ (let place = true_place (fluent_atoms task) values atom ((in_atoms_of _ atom).0 one) in
            absurd (no_number task atom none (Member-at (fluent_atoms task) place.0 atom place.1)))
        | inr static ↦ (in_atoms_of task.init atom).1 (static_has atom static).0
      ])
      (λ has.
      let m = (in_atoms_of task.init atom).0 has in
      let static : is_fluent task.predicates atom.predicate ≡ false = false_from_ne_true _ (λ fluent. no_number task atom none (initial_fluent task atom m fluent)) in
      in_stands values atom
      ∙ or_right _ _ ((in_atoms_of (static_atoms task) atom).1 (Member-filter (λ (one : Atom). not (is_fluent task.predicates one.predicate)) task.init atom m (not_from_false _ static))))

  -- an atom whose predicate is not fluent is in the state if and only if it is an initial atom
  pub unfluent_stands : (values : List Bool) (atom : Atom) → is_fluent task.predicates atom.predicate ≡ false → set.contains (stands task values) atom ≡ set.contains (initial task) atom
  unfluent_stands values atom static = static_stands values atom (elim (some_or_none (atom_number task atom)) [
    | inl one ↦ absurd (both_ways _ static (fluent_has task atom (Member-at (fluent_atoms task) one.0 atom (atom-at task atom one.0 one.1))))
    | inr none ↦ none
  ])

  -- truth values stand for a state if they are those of the fluent atoms in it, and its other atoms are the initial ones
  pub stands_for : (values : List Bool) (state : State) → ((atom : Atom) (n : ℕ) → slice_get (fluent_atoms task) n ≡ Some atom → set.contains state atom ≡ truth_at values n)
      → ((atom : Atom) → atom_number task atom ≡ None → set.contains state atom ≡ set.contains (initial task) atom) → stands task values ≡ state
  stands_for values state fluent static = states-are-their-atoms (stands task values) state (λ atom. elim (some_or_none (atom_number task atom)) [
    | inl one ↦ (let at = atom-at task atom one.0 one.1 in numbered_stands values atom one.0 at ∙ sym (fluent atom one.0 at))
    | inr none ↦ static_stands values atom none ∙ sym (static atom none)
  ])

  -- the state for which truth values stand has these truth values
  pub restrict_stands : (values : List Bool) → length values ≡ length (fluent_atoms task) → restrict task (stands task values) ≡ values
  restrict_stands values long = map-truth (set.contains (stands task values)) (fluent_atoms task) values long (λ n atom at. numbered_stands values atom n at)

  -- the truth values in the initial state stand for it
  pub stands_initial : stands task (restrict task (initial task)) ≡ initial task
  stands_initial = stands_for (restrict task (initial task)) (initial task) (λ atom n at. sym (truth-map (set.contains (initial task)) (fluent_atoms task) n atom at)) (λ atom none. refl)
