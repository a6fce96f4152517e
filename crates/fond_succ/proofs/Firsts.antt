-- The first place at which a test passes, distinct lists, and numbered items.
use Rattle.std.proofs.Common.{◌≡◌, ℕ, zero, suc, ◌+◌, ◌<◌, inl, inr, List, [], ◌∷◌, Bool, true, false, not, cond, Option, Some, None, length, refl, sym, ap, ◌∙◌, subst, arith}
use Rattle.std.specs.Prelude.{◌⊎◌, slice_get, IsTrue, filter}
use Rattle.std.specs.List.{enumerate_from, list_all, list_any, position, position_or_len}
use Rattle.std.specs.Str.{bytes_eq}
use Rattle.std.proofs.lemmas.Bool.{false≢true, cond-true, cond-false, lt-ltb, not-true, both_ways, and_parts}
use Rattle.std.proofs.lemmas.List.Quantifiers.{position-Some}
use Rattle.std.proofs.lemmas.Option.{none-some, same_Some, slice_get-get_or}
use Rattle.std.proofs.lemmas.Slice.Eq.{bytes_eq-Decides}
use Rattle.fond_text.specs.Lists.{are_distinct_texts}
use Rattle.fond_ast.proofs.Members.{Member}
use Rattle.fond_ast.proofs.Bools.{and-parts, or-left, or-right, or-cases}
use Rattle.fond_succ.proofs.Lists.{Member-at}

-- tests that pass together are equal
pub same_tests : (a b : Bool) → (IsTrue a → IsTrue b) → (IsTrue b → IsTrue a) → a ≡ b
same_tests true b there back = sym (there refl)
same_tests false true there back = back refl
same_tests false false there back = refl

-- an option has something or nothing
pub some_or_none : {X : Type 0} (o : Option X) → ((x : X) × (o ≡ Some x)) ⊎ (o ≡ None)
some_or_none None = inr refl
some_or_none (Some x) = inl (x, refl)

-- some item passes a test if and only if a member does
pub any-Member : {X : Type 0} (test : X → Bool) (xs : List X) → IsTrue (list_any test xs) → (x : X) × Member xs x × IsTrue (test x)
any-Member test [] some = absurd (false≢true some)
any-Member test (y ∷ xs) some = elim (or-cases (test y) (list_any test xs) some) [ inl e ↦ (y, inl refl, e) | inr e ↦ (let later = any-Member test xs e in (later.0, inr later.1, later.2)) ]

pub Member-any : {X : Type 0} (test : X → Bool) (xs : List X) (x : X) → Member xs x → IsTrue (test x) → IsTrue (list_any test xs)
Member-any test [] x none is = absurd none
Member-any test (y ∷ xs) x (inl e) is = or-left (test y) (list_any test xs) (sym (ap test e) ∙ is)
Member-any test (y ∷ xs) x (inr m) is = or-right (test y) (list_any test xs) (Member-any test xs x m is)

-- a test that passes on all items passes on each of them
pub all-Member : {X : Type 0} (test : X → Bool) (xs : List X) → IsTrue (list_all test xs) → (x : X) → Member xs x → IsTrue (test x)
all-Member test [] all x none = absurd none
all-Member test (y ∷ xs) all x (inl e) = ap test e ∙ (and-parts (test y) (list_all test xs) all).0
all-Member test (y ∷ xs) all x (inr m) = all-Member test xs (and-parts (test y) (list_all test xs) all).1 x m

-- the items of a filtered list are those that pass
pub Member-filter : {X : Type 0} (test : X → Bool) (xs : List X) (x : X) → Member xs x → IsTrue (test x) → Member (filter test xs) x
Member-filter test [] x none is = absurd none
Member-filter {X} test (y ∷ xs) x (inl e) is = let P : List X → Type 0 = λ zs. Member zs x in subst P (sym (cond-true (test y) (y ∷ filter test xs) (filter test xs) (sym (ap test e) ∙ is))) (inl e)
Member-filter {X} test (y ∷ xs) x (inr m) is = go (test y) (Member-filter test xs x m is)
  where
    go : (b : Bool) → Member (filter test xs) x → Member (cond b (y ∷ filter test xs) (filter test xs)) x
    go true later = inr later
    go false later = later

pub Member-from_filter : {X : Type 0} (test : X → Bool) (xs : List X) (x : X) → Member (filter test xs) x → Member xs x × IsTrue (test x)
Member-from_filter test [] x none = absurd none
Member-from_filter test (y ∷ xs) x m = go (test y) refl (Member-from_filter test xs x) m
  where
    go : (b : Bool) → test y ≡ b → (Member (filter test xs) x → Member xs x × IsTrue (test x)) → Member (cond b (y ∷ filter test xs) (filter test xs)) x → Member (y ∷ xs) x × IsTrue (test x)
    go true is later (inl e) = (inl e, ap test e ∙ is)
    go true is later (inr h) = let inner = later h in (inr inner.0, inner.1)
    go false is later h = let inner = later h in (inr inner.0, inner.1)

-- the item at a position passes the test
pub item-at : {X : Type 0} (test : X → Bool) (xs : List X) (d : X) (n : ℕ) → position test xs ≡ Some n → (x : X) × (slice_get xs n ≡ Some x) × IsTrue (test x)
item-at test xs d n is = let at = position-Some test xs n d is in (_, slice_get-get_or xs n d at.0, at.1)

-- an item that passes has a position no later than its own
first_below : {X : Type 0} (test : X → Bool) (xs : List X) (x : X) → Member xs x → IsTrue (test x) → position_or_len test xs < length xs
first_below test [] x none is = absurd none
first_below test (y ∷ xs) x (inl e) is =
    let zero_is : position_or_len test (y ∷ xs) ≡ 0 = cond-false _ _ _ (ap not (sym (ap test e) ∙ is)) in
    omega (arith, zero_is)
first_below test (y ∷ xs) x (inr m) is = go (not (test y)) (first_below test xs x m is)
  where
    go : (b : Bool) → position_or_len test xs < length xs → cond b (1 + position_or_len test xs) 0 < length (y ∷ xs)
    go true below = omega arith
    go false below = omega arith

pub has_position : {X : Type 0} (test : X → Bool) (xs : List X) (x : X) → Member xs x → IsTrue (test x) → (n : ℕ) × (position test xs ≡ Some n)
has_position test xs x m is = (position_or_len test xs, cond-true _ _ _ (lt-ltb _ _ (first_below test xs x m is)))

-- a text that differs from those after it has no place among them
later_differs : (first : List ℕ) (texts : List (List ℕ)) → IsTrue (not (list_any (bytes_eq first) texts)) → (j : ℕ) → slice_get texts j ≡ Some first → ⊥
later_differs first texts differs j is = both_ways (list_any (bytes_eq first) texts) (not-true _ differs) (Member-any (bytes_eq first) texts first (Member-at texts j first is) ((bytes_eq-Decides first first).1 refl))

-- distinct texts have one place each
pub one_place : (texts : List (List ℕ)) → IsTrue (are_distinct_texts texts) → (i j : ℕ) (text : List ℕ) → slice_get texts i ≡ Some text → slice_get texts j ≡ Some text → i ≡ j
one_place [] distinct i j text is also = absurd (none-some text is)
one_place (first ∷ texts) distinct zero zero text is also = refl
one_place (first ∷ texts) distinct zero (suc j) text is also = absurd (later_differs first texts (and_parts _ _ distinct).0 j (also ∙ sym is))
one_place (first ∷ texts) distinct (suc i) zero text is also = absurd (later_differs first texts (and_parts _ _ distinct).0 i (is ∙ sym also))
one_place (first ∷ texts) distinct (suc i) (suc j) text is also = ap suc (one_place texts (and_parts _ _ distinct).1 i j text is also)

-- an item is listed with its number
pub at-enumerate : {X : Type 0} (n : ℕ) (xs : List X) (item : ℕ × X) → Member (enumerate_from n xs) item → (i : ℕ) × (item.0 ≡ n + i) × (slice_get xs i ≡ Some item.1)
at-enumerate n [] item none = absurd none
at-enumerate n (x ∷ xs) item (inl e) = let here : n ≡ n + zero = omega arith in (zero, ap (λ (one : ℕ × _). one.0) e ∙ here, ap Some (sym (ap (λ (one : ℕ × _). one.1) e)))
at-enumerate n (x ∷ xs) item (inr m) =
    let later = at-enumerate (n + 1) xs item m in
    let next : n + 1 + later.0 ≡ n + suc later.0 = omega arith in
    (suc later.0, later.1 ∙ next, later.2)

pub enumerate-at : {X : Type 0} (n : ℕ) (xs : List X) (i : ℕ) (x : X) → slice_get xs i ≡ Some x → Member (enumerate_from n xs) (n + i, x)
enumerate-at n [] i x is = absurd (none-some x is)
enumerate-at n (y ∷ xs) zero x is = let here : n + zero ≡ n = omega arith in inl (λ k. (here k, sym (same_Some y x is) k))
enumerate-at n (y ∷ xs) (suc i) x is = let next : n + 1 + i ≡ n + suc i = omega arith in inr (subst (λ m. Member (enumerate_from (n + 1) xs) (m, x)) next (enumerate-at (n + 1) xs i x is))
