-- Entering atoms into tables.
use Rattle.std.proofs.Common.{◌≡◌, ◌≢◌, ℕ, zero, suc, ◌<◌, ◌&&◌, ◌||◌, Bool, true, false, List, [], ◌∷◌, Option, Some, None, is_some, inl, inr, length, set, get_or, replicate, map, refl, sym, ap, ◌∙◌, true≢false, arith}
use Rattle.std.specs.Prelude.{if◌then◌else◌, nat_eq, slice_get}
use Rattle.std.specs.List.{list_all}
use Rattle.std.specs.Option.{option_or, option_map_or}
use Rattle.std.specs.Ordering.{eq_by_cmp}
use Rattle.std.specs.Str.{bytes_eq}
use Rattle.std.specs.Cmp.Lexicographic.{texts_ties, nat_list_eq_equiv}
use Rattle.std.specs.FinSet as sets
use Rattle.std.proofs.lemmas.Bool.{cases_eq}
use Rattle.std.proofs.lemmas.Bool.Decides.{nat_tests}
use Rattle.std.proofs.lemmas.List.{get_or-set_same, get_or-set_other}
use Rattle.std.proofs.lemmas.Option.{slice_get_within}
use Rattle.fond_text.specs.Lists.{each_passes}
use Rattle.fond_text.specs.declared.atom.Atom.{Atom}
use Rattle.fond_ast.specs.Ranges.{objects_of, is_among}
use Rattle.fond_ast.specs.Within.{is_initial_within}
use Rattle.fond_ast.specs.declared.task.LPredicate.{LPredicate}
use Rattle.fond_store.specs.Texts.{number_beside, InsertsText}
use Rattle.fond_task.proofs.Found.{all_at}
use Rattle.fond_ast.specs.States.{atom_cmp, atoms_of}
use Rattle.fond_ast.proofs.Atoms.{atom_cmp_total}
use Rattle.fond_join.specs.Tables.{is_entered, IsEnteredBeside}

-- tables without entries have no atom
pub none_entered : (tables predicate : ℕ) (objects : List ℕ) → is_entered (replicate tables []) predicate objects ≡ false
none_entered zero predicate objects = refl
none_entered (suc tables) zero objects = refl
none_entered (suc tables) (suc predicate) objects = none_entered tables predicate objects

found_or : (first : Option ℕ) (same : Bool) (number : ℕ) → is_some (option_or first (if same then Some number else None)) ≡ (same || is_some first)
found_or None true number = refl
found_or None false number = refl
found_or (Some other) true number = refl
found_or (Some other) false number = refl

-- an atom ties with another if they have the same predicate and the same objects
pub tied : (predicate : ℕ) (objects : List ℕ) (atom : Atom) → eq_by_cmp atom_cmp (record { predicate = predicate; objects = objects }) atom ≡ (nat_eq predicate atom.predicate && bytes_eq objects atom.objects)
tied predicate objects atom = sym (texts_ties (predicate ∷ objects) (atom.predicate ∷ atom.objects))

module _ (tables : List (List (List ℕ × ℕ))) (atom : Atom) (number : ℕ) (entries : List (List ℕ × ℕ)) (within : atom.predicate < length tables) (grown : InsertsText (get_or tables atom.predicate []) atom.objects number entries) where
  -- the tables with these entries for the predicate of the atom
  abbrev others : List (List (List ℕ × ℕ))
  others = set tables atom.predicate entries

  at_own : (predicate : ℕ) (objects : List ℕ) → predicate ≡ atom.predicate → is_entered others predicate objects ≡ (bytes_eq objects atom.objects || is_entered tables predicate objects)
  at_own predicate objects same =
      ap (λ p. is_entered others p objects) same
      ∙ ap (λ list. is_some (number_beside list objects)) (get_or-set_same tables atom.predicate entries [] within)
      ∙ ap is_some (grown objects)
      ∙ found_or (number_beside (get_or tables atom.predicate []) objects) (bytes_eq atom.objects objects) number
      ∙ ap (λ b. b || is_entered tables atom.predicate objects) (nat_list_eq_equiv.symm atom.objects objects)
      ∙ ap (λ p. bytes_eq objects atom.objects || is_entered tables p objects) (sym same)

  -- an atom is entered when its objects are inserted in the table of its predicate
  pub put_entered : IsEnteredBeside tables atom (set tables atom.predicate entries)
  put_entered predicate objects =
      let same_test = λ (same : predicate ≡ atom.predicate). let test : nat_eq predicate atom.predicate ≡ true = grind (arith, nat_tests) in test in
      let other_test = λ (other : predicate ≢ atom.predicate). let test : nat_eq predicate atom.predicate ≡ false = grind (arith, nat_tests) in test in
      let to_tie = ap (λ b. b || is_entered tables predicate objects) (sym (tied predicate objects atom)) in
      elim (cases_eq predicate atom.predicate) [
        | inl same ↦ at_own predicate objects same
            ∙ ap (λ b. (b && bytes_eq objects atom.objects) || is_entered tables predicate objects) (sym (same_test same)) ∙ to_tie
        | inr other ↦ ap (λ list. is_some (number_beside list objects)) (get_or-set_other tables atom.predicate predicate entries [] other)
            ∙ ap (λ b. (b && bytes_eq objects atom.objects) || is_entered tables predicate objects) (sym (other_test other)) ∙ to_tie
      ]

-- the predicate of an initial atom is one of the task
pub predicate_within : (predicates : List LPredicate) (atoms : List Atom) (i : ℕ) (atom : Atom) → list_all (is_initial_within predicates) atoms ≡ true → slice_get atoms i ≡ Some atom → atom.predicate < length predicates
predicate_within predicates atoms i atom all is = by (slice_get predicates atom.predicate) refl (all_at (is_initial_within predicates) atoms i atom all is)
  where
    by : (found : Option LPredicate) → slice_get predicates atom.predicate ≡ found → option_map_or (λ predicate. each_passes (map is_among (objects_of predicate.ranges)) atom.objects) found false ≡ true → atom.predicate < length predicates
    by None none h = absurd (true≢false (sym h))
    by (Some predicate) found h = slice_get_within predicates atom.predicate predicate found

-- together with the atoms that follow, the tables have the same atoms before and after the next one is entered
pub next_entered : (tables : List (List (List ℕ × ℕ))) (atom : Atom) (after : List (List (List ℕ × ℕ))) (rest : List Atom) → IsEnteredBeside tables atom after → (predicate : ℕ) (objects : List ℕ) →
    (is_entered after predicate objects || sets.contains (atoms_of rest) (record { predicate = predicate; objects = objects }))
    ≡ (is_entered tables predicate objects || sets.contains (atoms_of (atom ∷ rest)) (record { predicate = predicate; objects = objects }))
next_entered tables atom after rest entered predicate objects =
    ap (λ b. b || sets.contains (atoms_of rest) (record { predicate = predicate; objects = objects })) (entered predicate objects)
    ∙ swapped (eq_by_cmp atom_cmp (record { predicate = predicate; objects = objects }) atom) (is_entered tables predicate objects) (sets.contains (atoms_of rest) (record { predicate = predicate; objects = objects }))
    ∙ ap (λ b. is_entered tables predicate objects || b) (sym (sets.contains-insert atom_cmp_total (atoms_of rest) atom (record { predicate = predicate; objects = objects })))
  where
    swapped : (a b c : Bool) → ((a || b) || c) ≡ (b || (a || c))
    swapped true true c = refl
    swapped true false c = refl
    swapped false b c = refl

-- what holds or false is what holds
pub or_none : (b : Bool) → b ≡ (b || false)
or_none true = refl
or_none false = refl
