-- The fluent atoms of a task: which they are, and the number that each has.
use Rattle.std.proofs.Common.{◌≡◌, ℕ, ◌+◌, List, [], Bool, true, false, Option, Some, None, map, refl, sym, ap, ◌∙◌, subst, arith}
use Rattle.std.specs.Prelude.{◌↔◌, ◌==◌, slice_get, IsTrue, if◌then◌else◌}
use Rattle.std.specs.List.{enumerate_from}
use Rattle.std.specs.Option.{option_map, option_map_or}
use Rattle.std.specs.Ordering.{eq_by_cmp, is_eq, is_lt, ordering_reverse}
use Rattle.std.specs.FinSet as set
use Rattle.std.specs.Str.{bytes_eq}
use Rattle.std.specs.declared.cmp.Ordering.{Ordering}
use Rattle.std.specs.declared.cmp.Ordering.TheVariants.{Less, Equal, Greater}
use Rattle.std.proofs.lemmas.Bool.{false≢true, and_from, and_parts, eqb-true, eq-eqb}
use Rattle.std.proofs.lemmas.Option.{none-some, slice_get-map}
use Rattle.std.proofs.lemmas.Slice.Eq.{bytes_eq-Decides}
use Rattle.fond_text.specs.Lists.{each_passes}
use Rattle.fond_text.specs.declared.atom.Atom.{Atom}
use Rattle.fond_ast.specs.Ranges.{is_among, objects_of}
use Rattle.fond_ast.specs.Within.{is_fluent, is_initial_within}
use Rattle.fond_ast.specs.declared.task.LPredicate.{LPredicate}
use Rattle.fond_ast.specs.declared.task.LiftedTask.{LiftedTask}
use Rattle.fond_ast.specs.Conditions.{tuples}
use Rattle.fond_ast.specs.States.{atom_cmp, atoms_of}
use Rattle.fond_ast.proofs.Atoms.{atom_cmp_total, atom_cmp-IsAntisymmetric}
use Rattle.fond_ast.proofs.Members.{Member, Member-from_Contains, Member-flat_map, Member-from_flat_map, Member-map, Member-from_map}
use Rattle.fond_ast.proofs.Tuples.{tuples-lie-in-ranges}
use Rattle.fond_task.specs.Distinct.{are_distinct_atoms, atom_numbers}
use Rattle.fond_ground.specs.Atoms.{atom_number, atoms_over, fluent_atoms, is_same_atom}
use Rattle.fond_succ.proofs.Lists.{Member-at}
use Rattle.fond_succ.proofs.Firsts.{any-Member, Member-any, all-Member, item-at, has_position, one_place, at-enumerate, enumerate-at}

-- atoms tie in their order if and only if they are equal
ties_equal : (order : Ordering) → IsTrue (is_eq order) → order ≡ Equal
ties_equal Less is = absurd (false≢true is)
ties_equal Equal is = refl
ties_equal Greater is = absurd (false≢true is)

self_ties : (order : Ordering) → order ≡ Equal → IsTrue (is_eq order)
self_ties order is = ap is_eq is

self_tie : (atom : Atom) → atom_cmp atom atom ≡ Equal
self_tie atom = own (atom_cmp atom atom) (atom_cmp_total.antisymm atom atom)
  where
    own : (order : Ordering) → order ≡ ordering_reverse order → order ≡ Equal
    own Less is = absurd (false≢true (sym (ap is_lt is)))
    own Equal is = refl
    own Greater is = absurd (false≢true (ap is_lt is))

-- the set of the atoms of a list has exactly these atoms
pub in_atoms_of : (atoms : List Atom) (atom : Atom) → IsTrue (set.contains (atoms_of atoms) atom) ↔ Member atoms atom
in_atoms_of atoms atom = (
  λ has.
      let one = any-Member (eq_by_cmp atom_cmp atom) atoms (sym (set.contains-from_list atom_cmp_total atoms atom) ∙ has) in
      subst (Member atoms) (sym (atom_cmp-IsAntisymmetric atom one.0 (ties_equal (atom_cmp atom one.0) one.2))) one.1,
  λ m. set.contains-from_list atom_cmp_total atoms atom ∙ Member-any (eq_by_cmp atom_cmp atom) atoms atom m (self_ties (atom_cmp atom atom) (self_tie atom)),
)

-- atoms that pass the test are equal
pub same_atom : (atom other : Atom) → IsTrue (is_same_atom atom other) → atom ≡ other
same_atom atom other is =
    let both = and_parts (atom.predicate == other.predicate) (bytes_eq atom.objects other.objects) is in
    let predicates : atom.predicate ≡ other.predicate = eqb-true _ _ both.0 in
    let objects : atom.objects ≡ other.objects = (bytes_eq-Decides atom.objects other.objects).0 both.1 in
    λ i. record { predicate = predicates i; objects = objects i }

pub is_itself : (atom : Atom) → IsTrue (is_same_atom atom atom)
is_itself atom = and_from (atom.predicate == atom.predicate) (bytes_eq atom.objects atom.objects) (eq-eqb atom.predicate atom.predicate refl) ((bytes_eq-Decides atom.objects atom.objects).1 refl)

-- a fluent predicate is declared, and marked as fluent
pub fluent_predicate : (predicates : List LPredicate) (number : ℕ) → IsTrue (is_fluent predicates number) → (predicate : LPredicate) × (slice_get predicates number ≡ Some predicate) × IsTrue predicate.fluent
fluent_predicate predicates number fluent = go (slice_get predicates number) refl fluent
  where
    go : (o : Option LPredicate) → slice_get predicates number ≡ o → IsTrue (option_map_or (λ predicate. predicate.fluent) o false) → (predicate : LPredicate) × (slice_get predicates number ≡ Some predicate) × IsTrue predicate.fluent
    go None is fluent = absurd (false≢true fluent)
    go (Some predicate) is fluent = (predicate, is, fluent)

abbrev atoms_of_item : ℕ × LPredicate → List Atom
atoms_of_item item = if item.1.fluent then atoms_over item.0 item.1.ranges else []

module _ (task : LiftedTask) where
  -- a fluent atom has a fluent predicate
  pub fluent_has : (atom : Atom) → Member (fluent_atoms task) atom → IsTrue (is_fluent task.predicates atom.predicate)
  fluent_has atom m =
      let item = Member-from_flat_map atoms_of_item (enumerate_from 0 task.predicates) atom m in
      let at = at-enumerate 0 task.predicates item.0 item.1 in
      let number : item.0.0 ≡ at.0 = at.1 ∙ plain at.0 in
      go item.0.1.fluent item.0.0 item.0.1 at.0 refl number at.2 item.2
    where
      plain : (n : ℕ) → 0 + n ≡ n
      plain n = omega arith

      go : (b : Bool) (number : ℕ) (predicate : LPredicate) (i : ℕ) → predicate.fluent ≡ b → number ≡ i → slice_get task.predicates i ≡ Some predicate → Member (if b then atoms_over number predicate.ranges else []) atom → IsTrue (is_fluent task.predicates atom.predicate)
      go true number predicate i fluent same at m =
          let from = Member-from_map (λ objects. record { predicate = number; objects = objects }) (tuples (objects_of predicate.ranges)) atom m in
          let named : atom.predicate ≡ i = ap (λ (one : Atom). one.predicate) from.2 ∙ same in
          ap (is_fluent task.predicates) named ∙ ap (λ o. option_map_or (λ predicate. predicate.fluent) o false) at ∙ fluent
      go false number predicate i fluent same at m = absurd m

  -- an atom of a fluent predicate whose objects lie in its ranges is a fluent atom
  pub fluent_from : (atom : Atom) (predicate : LPredicate) → slice_get task.predicates atom.predicate ≡ Some predicate → IsTrue predicate.fluent → Member (tuples (objects_of predicate.ranges)) atom.objects → Member (fluent_atoms task) atom
  fluent_from atom predicate at fluent fits =
      let numbered : Member (enumerate_from 0 task.predicates) (0 + atom.predicate, predicate) = enumerate-at 0 task.predicates atom.predicate predicate at in
      let plain : 0 + atom.predicate ≡ atom.predicate = omega arith in
      let listed : Member (enumerate_from 0 task.predicates) (atom.predicate, predicate) = subst (λ n. Member (enumerate_from 0 task.predicates) (n, predicate)) plain numbered in
      let over : Member (atoms_over atom.predicate predicate.ranges) atom = Member-map (λ objects. record { predicate = atom.predicate; objects = objects }) (tuples (objects_of predicate.ranges)) atom.objects fits in
      Member-flat_map atoms_of_item (enumerate_from 0 task.predicates) (atom.predicate, predicate) atom listed (subst (λ b. Member (if b then atoms_over atom.predicate predicate.ranges else []) atom) (sym fluent) over)

  -- an initial atom of a fluent predicate is a fluent atom
  pub initial_fluent : (atom : Atom) → Member task.init atom → IsTrue (is_fluent task.predicates atom.predicate) → Member (fluent_atoms task) atom
  initial_fluent atom m fluent =
      let within : IsTrue (is_initial_within task.predicates atom) = all-Member (is_initial_within task.predicates) task.init task.init_within atom m in
      let predicate = fluent_predicate task.predicates atom.predicate fluent in
      let lies : IsTrue (each_passes (map is_among (objects_of predicate.0.ranges)) atom.objects) = sym (ap (λ o. option_map_or (λ predicate. each_passes (map is_among (objects_of predicate.ranges)) atom.objects) o false) predicate.1) ∙ within in
      fluent_from atom predicate.0 predicate.1 predicate.2 (Member-from_Contains _ _ ((tuples-lie-in-ranges (objects_of predicate.0.ranges) atom.objects).1 lies))

  -- the atom of a number
  pub atom-at : (atom : Atom) (n : ℕ) → atom_number task atom ≡ Some n → slice_get (fluent_atoms task) n ≡ Some atom
  atom-at atom n is =
      let at = item-at (is_same_atom atom) (fluent_atoms task) atom n is in
      at.1 ∙ ap Some (sym (same_atom atom at.0 at.2))

  module _ (distinct : IsTrue (are_distinct_atoms (fluent_atoms task))) where
    one_number : (atom : Atom) (i j : ℕ) → slice_get (fluent_atoms task) i ≡ Some atom → slice_get (fluent_atoms task) j ≡ Some atom → i ≡ j
    one_number atom i j is also = one_place (map atom_numbers (fluent_atoms task)) distinct i j (atom_numbers atom) (numbers_at i is) (numbers_at j also)
      where
        numbers_at : (k : ℕ) → slice_get (fluent_atoms task) k ≡ Some atom → slice_get (map atom_numbers (fluent_atoms task)) k ≡ Some (atom_numbers atom)
        numbers_at k at = slice_get-map atom_numbers (fluent_atoms task) k ∙ ap (option_map atom_numbers) at

    -- the number of a fluent atom is its place
    pub number-at : (atom : Atom) (n : ℕ) → slice_get (fluent_atoms task) n ≡ Some atom → atom_number task atom ≡ Some n
    number-at atom n at =
        let found = has_position (is_same_atom atom) (fluent_atoms task) atom (Member-at (fluent_atoms task) n atom at) (is_itself atom) in
        found.1 ∙ ap Some (one_number atom found.0 n (atom-at atom found.0 found.1) at)

  -- an atom without a number is no fluent atom
  pub no_number : (atom : Atom) → atom_number task atom ≡ None → ¬ Member (fluent_atoms task) atom
  no_number atom none m =
      let found = has_position (is_same_atom atom) (fluent_atoms task) atom m (is_itself atom) in
      none-some found.0 (sym none ∙ found.1)
