-- Which object of a range, and which objects of ranges, names name.
use Rattle.std.proofs.Common.{◌≡◌, ℕ, zero, suc, ◌+◌, ◌<◌, ◌≤◌, ◌∙◌, ◌⊎◌, inl, inr, true, List, [], ◌∷◌, length, get_or, Some, slice_get, refl, sym, ap, arith}
use Rattle.std.specs.Prelude.{Contains, IsTrue, nat_lt}
use Rattle.std.specs.List.{list_all}
use Rattle.std.proofs.lemmas.Bool.{cases_lt}
use Rattle.std.proofs.lemmas.Bool.Decides.{nat_tests}
use Rattle.std.proofs.lemmas.Option.{get_or_from_slice_get, slice_get-get_or}
use Rattle.fond_task.specs.Texts.{name_at}
use Rattle.fond_ast.proofs.Come.{all-at}

-- the item of a range at an index is in it
pub is_in : (range items : List ℕ) (index : ℕ) → items ≡ range → index < length items → Contains range (get_or items index 0)
is_in range items index same lt = (index, (let whole = ap length same in omega (arith, lt, whole)), ap (λ xs. get_or xs index (get_or items index 0)) (sym same) ∙ get_or_there items index (get_or items index 0) 0 lt)
  where
    get_or_there : (xs : List ℕ) (i d e : ℕ) → i < length xs → get_or xs i d ≡ get_or xs i e
    get_or_there [] i d e lt = absurd (omega (arith, lt))
    get_or_there (x ∷ xs) zero d e lt = refl
    get_or_there (x ∷ xs) (suc i) d e lt = get_or_there xs i d e (omega (arith, lt))

-- the name of an object that is there
pub has_name : (names : List (List ℕ)) (object : ℕ) (name : List ℕ) → slice_get names object ≡ Some name → name_at names object ≡ name
has_name names object name at = get_or_from_slice_get names object name [] at

-- a list whose items are all numbers below a bound has such an item at an index
pub below : (bound : ℕ) (range : List ℕ) (index object : ℕ) → IsTrue (list_all (λ one. nat_lt one bound) range) → slice_get range index ≡ Some object → object < bound
below bound range index object all at = let is : nat_lt object bound ≡ true = all-at (λ one. nat_lt one bound) range index object at all in grind (arith, nat_tests, is)

-- no item before the next index has a name if none before an index has, and the one there does not
pub none_more : (names : List (List ℕ)) (items : List ℕ) (name : List ℕ) (index : ℕ) → index < length items → (name_at names (get_or items index 0) ≡ name → ⊥)
    → ((number object : ℕ) → number < index → slice_get items number ≡ Some object → name_at names object ≡ name → ⊥)
    → (number object : ℕ) → number < index + 1 → slice_get items number ≡ Some object → name_at names object ≡ name → ⊥
none_more names items name index lt not_here before number object within at same = by (cases_lt number index)
  where
    by : (number < index) ⊎ (index ≤ number) → ⊥
    by (inl earlier) = before number object earlier at same
    by (inr later) =
        let here : index ≡ number = omega (arith, within, later) in
        let is : get_or items index 0 ≡ object = get_or_from_slice_get items index object 0 (ap (slice_get items) here ∙ at) in
        not_here (ap (name_at names) is ∙ same)

-- no object of a range has a name if none up to its end has
pub none_of : (names : List (List ℕ)) (range items : List ℕ) (name : List ℕ) (index : ℕ) → items ≡ range → length items ≤ index
    → ((number object : ℕ) → number < index → slice_get items number ≡ Some object → name_at names object ≡ name → ⊥) → (object : ℕ) → Contains range object → name_at names object ≡ name → ⊥
none_of names range items name index same end before object has named =
    let at : slice_get range has.0 ≡ Some object = slice_get-get_or range has.0 object has.1 ∙ ap (λ x. Some x) has.2 in
    let whole = ap length same in
    before has.0 object (omega (arith, end, whole, has.1)) (ap (λ xs. slice_get xs has.0) same ∙ at) named
