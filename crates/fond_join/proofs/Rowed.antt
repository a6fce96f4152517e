-- Adding objects to rows.
use Rattle.std.proofs.Common.{◌≡◌, ◌<◌, inl, inr, ℕ, ◌+◌, Bool, true, false, List, [], ◌∷◌, ◌++◌, Option, Some, None, length, get_or, set, slice_get, refl, sym, ap, subst, ◌∙◌, arith}
use Rattle.std.specs.Prelude.{◌==◌, nat_lt, if◌then◌else◌}
use Rattle.std.specs.Option.{option_or}
use Rattle.std.specs.Str.{bytes_eq}
use Rattle.std.specs.Cmp.Lexicographic.{nat_list_eq_equiv}
use Rattle.std.proofs.lemmas.Bool.{cases_eq}
use Rattle.std.proofs.lemmas.Bool.Decides.{nat_tests}
use Rattle.std.proofs.lemmas.Grind.{common_steps}
use Rattle.std.proofs.lemmas.List.{get_or-set_same, get_or-set_other, length-append}
use Rattle.std.proofs.lemmas.List.Folds.{list_any-append}
use Rattle.fond_ast.specs.Ranges.{is_among}
use Rattle.fond_store.specs.Texts.{number_beside, InsertsText}
use Rattle.fond_ast.proofs.Bools.{or-left, or-right}
use Rattle.fond_text.specs.declared.atom.Atom.{Atom}
use Rattle.std.proofs.lemmas.Option.{get_or_from_slice_get}
use Rattle.fond_join.specs.Rows.{AreNumbered, IsGrown, IsRowedAt, key_of, list_at, row_at}

among_more : (list : List ℕ) (object other : ℕ) → is_among list other ≡ true → is_among (list ++ object ∷ []) other ≡ true
among_more list object other h = list_any-append (λ x. x == other) list (object ∷ []) ∙ or-left (is_among list other) (is_among (object ∷ []) other) h

among_last : (list : List ℕ) (object : ℕ) → is_among (list ++ object ∷ []) object ≡ true
among_last list object =
    list_any-append (λ x. x == object) list (object ∷ [])
    ∙ or-right (is_among list object) (is_among (object ∷ []) object) (or-left (object == object) false (let same : object ≡ object = refl in grind (arith, nat_tests)))

at_front : (lists : List (List ℕ)) (list : List ℕ) (number : ℕ) → number < length lists → get_or (lists ++ list ∷ []) number [] ≡ get_or lists number []
at_front lists list number within = grind (arith, common_steps)

at_end : (lists : List (List ℕ)) (list : List ℕ) → get_or (lists ++ list ∷ []) (length lists) [] ≡ list
at_end [] list = refl
at_end (first ∷ lists) list = at_end lists list

same_key : (key : List ℕ) → bytes_eq key key ≡ true
same_key key = nat_list_eq_equiv.refl key

-- some number is found in a list of numbers or is that of one more
abbrev or_new : Option ℕ → Bool → ℕ → Option ℕ
or_new found b number = option_or found (if b then Some number else None)

module _ (numbers : List (List ℕ × ℕ)) (lists : List (List ℕ)) (key : List ℕ) (object : ℕ) (numbered : AreNumbered numbers lists) where
  -- the lists with one more list of one object
  abbrev begun_lists : List (List ℕ)
  begun_lists = lists ++ (object ∷ []) ∷ []

  longer : length begun_lists ≡ length lists + 1
  longer = length-append lists ((object ∷ []) ∷ [])

  -- each number is that of a list when a key is inserted with the number of one more list
  pub begun_numbered : (more : List (List ℕ × ℕ)) → InsertsText numbers key (length lists) more → AreNumbered more begun_lists
  begun_numbered more grown other number is = subst (λ n. number < n) (sym longer) (by (number_beside numbers other) refl (bytes_eq key other) (sym (grown other) ∙ is))
    where
      by : (found : Option ℕ) → number_beside numbers other ≡ found → (b : Bool) → or_new found b (length lists) ≡ Some number → number < length lists + 1
      by (Some old) there b now = let same : old ≡ number = cc in let within = numbered other old there in omega (arith, same, within)
      by None none true now = let same : length lists ≡ number = cc in omega (arith, same)
      by None none false now = cc

  -- no row loses an object when a key is inserted with the number of one more list
  pub begun_grown : (more : List (List ℕ × ℕ)) → InsertsText numbers key (length lists) more → IsGrown numbers lists more begun_lists
  begun_grown more grown other x has = ap (λ found. is_among (list_at begun_lists found) x) (grown other) ∙ by (number_beside numbers other) refl (bytes_eq key other) has
    where
      by : (found : Option ℕ) → number_beside numbers other ≡ found → (b : Bool) → is_among (list_at lists found) x ≡ true → is_among (list_at begun_lists (or_new found b (length lists))) x ≡ true
      by (Some old) there b h = ap (λ list. is_among list x) (at_front lists (object ∷ []) old (numbered other old there)) ∙ h
      by None none b h = cc

  -- the row of a new key that is inserted with the number of one more list has the object of this list
  pub begun_added : (more : List (List ℕ × ℕ)) → InsertsText numbers key (length lists) more → number_beside numbers key ≡ None → is_among (row_at more begun_lists key) object ≡ true
  begun_added more grown none =
      ap (λ found. is_among (list_at begun_lists found) object) (grown key ∙ (λ i. or_new (none i) (same_key key i) (length lists)))
      ∙ ap (λ list. is_among list object) (at_end lists (object ∷ []))
      ∙ among_last [] object

  -- rows with one more object in the row of a key
  abbrev added_lists : ℕ → List (List ℕ)
  added_lists number = set lists number (get_or lists number [] ++ object ∷ [])

  pub added_grown : (number : ℕ) → number < length lists → IsGrown numbers lists numbers (added_lists number)
  added_grown number within other x has = by (number_beside numbers other) has
    where
      by : (found : Option ℕ) → is_among (list_at lists found) x ≡ true → is_among (list_at (added_lists number) found) x ≡ true
      by None h = h
      by (Some place) h = elim (cases_eq place number) [
        | inl same ↦ ap (λ n. is_among (get_or (added_lists number) n []) x) same
            ∙ ap (λ list. is_among list x) (get_or-set_same lists number (get_or lists number [] ++ object ∷ []) [] within)
            ∙ among_more (get_or lists number []) object x (ap (λ n. is_among (get_or lists n []) x) (sym same) ∙ h)
        | inr differ ↦ ap (λ list. is_among list x) (get_or-set_other lists number place (get_or lists number [] ++ object ∷ []) [] differ) ∙ h
      ]

  pub added_last : (number : ℕ) → number_beside numbers key ≡ Some number → is_among (row_at numbers (added_lists number) key) object ≡ true
  added_last number there =
      ap (λ found. is_among (list_at (added_lists number) found) object) there
      ∙ ap (λ list. is_among list object) (get_or-set_same lists number (get_or lists number [] ++ object ∷ []) [] (numbered key number there))
      ∙ among_last (get_or lists number []) object

-- what holds of the numbers below one and of that one holds of the numbers below the next
pub below_next : (P : ℕ → Type 0) (n : ℕ) → ((k : ℕ) → k < n → P k) → P n → (k : ℕ) → k < n + 1 → P k
below_next P n below own k within = by (nat_lt k n) refl
  where
    by : (b : Bool) → nat_lt k n ≡ b → P k
    by true test = below k (let less : k < n = grind (arith, nat_tests) in less)
    by false test = let same : n ≡ k = grind (arith, nat_tests) in subst P same own

-- an object that is in the row of the key of an atom's numbers is in the row beside them
pub rowed_by : (numbers : List (List ℕ × ℕ)) (lists : List (List ℕ)) (atom : Atom) (position other first second object last : ℕ) → first ≡ position → second ≡ other →
    slice_get atom.objects position ≡ Some object → slice_get atom.objects other ≡ Some last → is_among (row_at numbers lists (key_of atom.predicate first object second)) last ≡ true → IsRowedAt numbers lists atom position other
rowed_by numbers lists atom position other first second object last one two at there has =
    (λ i. is_among (row_at numbers lists (key_of atom.predicate (sym one i) (get_or_from_slice_get atom.objects position object 0 at i) (sym two i))) (get_or_from_slice_get atom.objects other last 0 there i)) ∙ has
