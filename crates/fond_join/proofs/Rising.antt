-- Rising lists of numbers, and the numbers of a list that are picked from a range.
use Rattle.std.proofs.Common.{◌≡◌, ◌⊎◌, ◌<◌, ◌≤◌, inl, inr, ℕ, zero, suc, ◌+◌, ◌&&◌, Bool, true, false, not, List, [], ◌∷◌, ◌++◌, length, get_or, drop, Result, Ok, Err, refl, sym, ap, subst, ◌∙◌, true≢false, arith}
use Rattle.std.specs.Prelude.{◌==◌, filter, nat_lt, if◌then◌else◌}
use Rattle.std.specs.List.Sorted.{IsNonDecreasing, IsPermutation}
use Rattle.std.proofs.lemmas.Bool.Decides.{nat_tests}
use Rattle.std.proofs.lemmas.List.{append_assoc, get_or_default}
use Rattle.std.specs.List.Sorted.{IsBinarySearchResult}
use Rattle.std.specs.Ordering.{nat_cmp}
use Rattle.std.specs.Result.{MatchResult, is_ok}
use Rattle.std.proofs.lemmas.List.Sorted.{Contains-permutation, IsPermutation-sym, searched}
use Rattle.fond_ast.specs.Ranges.{is_among, is_rising}
use Rattle.fond_ast.proofs.Bools.{and-parts, or-left, or-right, or-cases}
use Rattle.fond_join.proofs.Items.{drop_item}
use Rattle.fond_ast.proofs.Members.{Member, Member-from_Contains, Contains-from_Member}

pub among : (range : List ℕ) (object : ℕ) → Member range object → is_among range object ≡ true
among [] object m = absurd m
among (other ∷ range) object (inl e) = or-left (other == object) (is_among range object) (let f : other ≡ object = sym e in grind (arith, nat_tests))
among (other ∷ range) object (inr m) = or-right (other == object) (is_among range object) (among range object m)

pub of_among : (range : List ℕ) (object : ℕ) → is_among range object ≡ true → Member range object
of_among [] object h = cc
of_among (other ∷ range) object h =
    elim (or-cases (other == object) (is_among range object) h) [ inl e ↦ inl (let f : other ≡ object = grind (arith, nat_tests, e) in sym f) | inr m ↦ inr (of_among range object m) ]

-- the numbers of a list rise from a least one on
abbrev Rises : ℕ → List ℕ → Type 0
Rises least [] = Unit {0}
Rises least (x ∷ xs) = (least ≤ x) × Rises (x + 1) xs

weaker : (low least : ℕ) (xs : List ℕ) → low ≤ least → Rises least xs → Rises low xs
weaker low least [] le h = tt
weaker low least (x ∷ xs) le h = ((let up = h.0 in omega arith), h.1)

rises_after : (x : ℕ) (xs : List ℕ) → is_rising (x ∷ xs) ≡ true → Rises (x + 1) xs
rises_after x [] h = tt
rises_after x (y ∷ ys) h =
    let parts = and-parts (nat_lt x y) (is_rising (y ∷ ys)) h in
    let test = parts.0 in
    let less : x + 1 ≤ y = grind (arith, nat_tests) in
    (less, rises_after y ys parts.1)

rises : (xs : List ℕ) → is_rising xs ≡ true → Rises 0 xs
rises [] h = tt
rises (x ∷ xs) h = (omega arith, rises_after x xs h)

rises_filter : (test : ℕ → Bool) (least : ℕ) (xs : List ℕ) → Rises least xs → Rises least (filter test xs)
rises_filter test least [] h = tt
rises_filter test least (x ∷ xs) h = by (test x) (rises_filter test (x + 1) xs h.1)
  where
    by : (b : Bool) → Rises (x + 1) (filter test xs) → Rises least (if b then x ∷ filter test xs else filter test xs)
    by true rest = (h.0, rest)
    by false rest = weaker least (x + 1) (filter test xs) (let up = h.0 in omega arith) rest

above : (least : ℕ) (xs : List ℕ) (z : ℕ) → Rises least xs → Member xs z → least ≤ z
above least [] z h m = absurd m
above least (x ∷ xs) z h (inl e) = let up = h.0 in omega (arith, e)
above least (x ∷ xs) z h (inr m) = let up = h.0 in let more = above (x + 1) xs z h.1 m in omega arith

-- rising lists begin with the same number if they have the same ones
same_first : (x y : ℕ) (xs ys : List ℕ) → Rises (x + 1) xs → Rises (y + 1) ys → Member (y ∷ ys) x → Member (x ∷ xs) y → x ≡ y
same_first x y xs ys up other (inl e) n = e
same_first x y xs ys up other (inr m) (inl e) = sym e
same_first x y xs ys up other (inr m) (inr n) = let one = above (y + 1) ys x other m in let two = above (x + 1) xs y up n in absurd (omega arith)

-- rising lists with the same numbers are equal
same_rising : (least low : ℕ) (xs ys : List ℕ) → Rises least xs → Rises low ys → ((z : ℕ) → Member xs z → Member ys z) → ((z : ℕ) → Member ys z → Member xs z) → xs ≡ ys
same_rising least low [] [] h g to from = refl
same_rising least low [] (y ∷ ys) h g to from = absurd (from y (inl refl))
same_rising least low (x ∷ xs) [] h g to from = absurd (to x (inl refl))
same_rising least low (x ∷ xs) (y ∷ ys) h g to from =
    let same = same_first x y xs ys h.1 g.1 (to x (inl refl)) (from y (inl refl)) in
    λ i. same i ∷ same_rising (x + 1) (y + 1) xs ys h.1 g.1
    (λ z m. elim (to z (inr m)) [ inl e ↦ (let up = above (x + 1) xs z h.1 m in absurd (omega (arith, e, same))) | inr n ↦ n ])
    (λ z m. elim (from z (inr m)) [ inl e ↦ (let up = above (y + 1) ys z g.1 m in absurd (omega (arith, e, same))) | inr n ↦ n ]) i

in_filter : (test : ℕ → Bool) (xs : List ℕ) (z : ℕ) → Member xs z → test z ≡ true → Member (filter test xs) z
in_filter test [] z m passes = absurd m
in_filter test (x ∷ xs) z (inl e) passes = subst (λ b. Member (if b then x ∷ filter test xs else filter test xs) z) (sym (ap test (sym e) ∙ passes)) (inl e)
in_filter test (x ∷ xs) z (inr m) passes = by (test x) (in_filter test xs z m passes)
  where
    by : (b : Bool) → Member (filter test xs) z → Member (if b then x ∷ filter test xs else filter test xs) z
    by true rest = inr rest
    by false rest = rest

of_filter : (test : ℕ → Bool) (xs : List ℕ) (z : ℕ) → Member (filter test xs) z → Member xs z × (test z ≡ true)
of_filter test [] z m = absurd m
of_filter test (x ∷ xs) z m = by (test x) refl m (of_filter test xs z)
  where
    by : (b : Bool) → test x ≡ b → Member (if b then x ∷ filter test xs else filter test xs) z → (Member (filter test xs) z → Member xs z × (test z ≡ true)) → Member (x ∷ xs) z × (test z ≡ true)
    by true passes (inl e) later = (inl e, ap test e ∙ passes)
    by true passes (inr n) later = let rest = later n in (inr rest.0, rest.1)
    by false fails n later = let rest = later n in (inr rest.0, rest.1)

-- the numbers of a list, from a least one on, that lie in a range, each one raising the least
abbrev pub picked : List ℕ → ℕ → List ℕ → List ℕ
picked range least [] = []
picked range least (x ∷ row) = if not (nat_lt x least) && is_among range x then x ∷ picked range (x + 1) row else picked range least row

pub pick_one : (range : List ℕ) (least x : ℕ) (row : List ℕ) → least ≤ x → is_among range x ≡ true → x ∷ picked range (x + 1) row ≡ picked range least (x ∷ row)
pick_one range least x row up in_range =
    let test : nat_lt x least ≡ false = grind (arith, nat_tests) in
    λ i. if not (sym test i) && sym in_range i then x ∷ picked range (x + 1) row else picked range least row

pub pick_none : (range : List ℕ) (least x : ℕ) (row : List ℕ) → is_among range x ≡ false → picked range least row ≡ picked range least (x ∷ row)
pick_none range least x row out = by (not (nat_lt x least)) ∙ ap (λ b. if not (nat_lt x least) && b then x ∷ picked range (x + 1) row else picked range least row) (sym out)
  where
    by : (b : Bool) → picked range least row ≡ (if b && false then x ∷ picked range (x + 1) row else picked range least row)
    by true = refl
    by false = refl

pub pick_less : (range : List ℕ) (least x : ℕ) (row : List ℕ) → x < least → picked range least row ≡ picked range least (x ∷ row)
pick_less range least x row less =
    let test : nat_lt x least ≡ true = grind (arith, nat_tests) in
    ap (λ b. if not b && is_among range x then x ∷ picked range (x + 1) row else picked range least row) (sym test)

picked_rises : (range : List ℕ) (least : ℕ) (row : List ℕ) → Rises least (picked range least row)
picked_rises range least [] = tt
picked_rises range least (x ∷ row) = by (nat_lt x least) refl (is_among range x) (picked_rises range least row) (picked_rises range (x + 1) row)
  where
    by : (b : Bool) → nat_lt x least ≡ b → (c : Bool) → Rises least (picked range least row) → Rises (x + 1) (picked range (x + 1) row) →
        Rises least (if not b && c then x ∷ picked range (x + 1) row else picked range least row)
    by true less c rest more = rest
    by false test true rest more = ((let up : least ≤ x = grind (arith, nat_tests) in up), more)
    by false test false rest more = rest

of_picked : (range : List ℕ) (least : ℕ) (row : List ℕ) (z : ℕ) → Member (picked range least row) z → Member row z × (is_among range z ≡ true)
of_picked range least [] z m = absurd m
of_picked range least (x ∷ row) z m = by (not (nat_lt x least)) (is_among range x) refl m (of_picked range least row z) (of_picked range (x + 1) row z)
  where
    by : (b c : Bool) → is_among range x ≡ c → Member (if b && c then x ∷ picked range (x + 1) row else picked range least row) z →
        (Member (picked range least row) z → Member row z × (is_among range z ≡ true)) → (Member (picked range (x + 1) row) z → Member row z × (is_among range z ≡ true)) → Member (x ∷ row) z × (is_among range z ≡ true)
    by true true in_range (inl e) later more = (inl e, ap (is_among range) e ∙ in_range)
    by true true in_range (inr n) later more = let rest = more n in (inr rest.0, rest.1)
    by true false out n later more = let rest = later n in (inr rest.0, rest.1)
    by false c test n later more = let rest = later n in (inr rest.0, rest.1)

-- each number of a list without a fall is at least the first one
first_least : (x : ℕ) (row : List ℕ) → IsNonDecreasing (x ∷ row) → (z : ℕ) → Member row z → x ≤ z
first_least x row sorted z m =
    let at = Contains-from_Member row z m in
    let up = sorted 0 (suc at.0) z (omega arith) (let within = at.1 in omega arith) in
    let is : get_or row at.0 z ≡ z = at.2 in
    omega (arith, up, is)

in_picked : (range : List ℕ) (least : ℕ) (row : List ℕ) → IsNonDecreasing row → (z : ℕ) → Member row z → is_among range z ≡ true → least ≤ z → Member (picked range least row) z
in_picked range least [] sorted z m in_range up = absurd m
in_picked range least (x ∷ row) sorted z m in_range up =
    let tail : IsNonDecreasing row = λ i j d le within. sorted (suc i) (suc j) d (omega arith) (omega arith) in
    by (nat_lt x least) refl (is_among range x) refl m (λ n. in_picked range least row tail z n in_range up) (λ n more. in_picked range (x + 1) row tail z n in_range more)
  where
    kept : x ≤ z → z ≤ x → (b : Bool) → nat_lt x least ≡ b → (c : Bool) → c ≡ true → Member (if not b && c then x ∷ picked range (x + 1) row else picked range least row) z
    kept le ge true less c h = absurd (let below : x < least = grind (arith, nat_tests) in omega arith)
    kept le ge false test true h = inl (omega arith)
    kept le ge false test false h = absurd (true≢false (sym h))

    later : x ≤ z → (d : Bool) → nat_lt x z ≡ d → (x + 1 ≤ z → Member (picked range (x + 1) row) z) → Member (x ∷ picked range (x + 1) row) z
    later le true test more = let less : x < z = grind (arith, nat_tests) in inr (more (omega arith))
    later le false test more = let most : z ≤ x = grind (arith, nat_tests) in inl (omega arith)

    by : (b : Bool) → nat_lt x least ≡ b → (c : Bool) → is_among range x ≡ c → Member (x ∷ row) z → (Member row z → Member (picked range least row) z) →
        (Member row z → x + 1 ≤ z → Member (picked range (x + 1) row) z) → Member (if not b && c then x ∷ picked range (x + 1) row else picked range least row) z
    by b test c is (inl e) rest more = kept (omega (arith, e)) (omega (arith, e)) b test c (sym is ∙ ap (is_among range) (sym e) ∙ in_range)
    by true test c is (inr n) rest more = rest n
    by false test false is (inr n) rest more = rest n
    by false test true is (inr n) rest more = later (first_least x row sorted z n) (nat_lt x z) refl (more n)

-- what is picked from a sorted row is what a range has of the row
pub picked_all : (range row sorted : List ℕ) → is_rising range ≡ true → IsPermutation row sorted → IsNonDecreasing sorted → picked range 0 sorted ≡ filter (is_among row) range
picked_all range row sorted rising moved up = same_rising 0 0 _ _ (picked_rises range 0 sorted) (rises_filter (is_among row) 0 range (rises range rising))
    (λ z m. let both = of_picked range 0 sorted z m in
    in_filter (is_among row) range z (of_among range z both.1)
    (among row z (Member-from_Contains row z (Contains-permutation sorted row z (IsPermutation-sym row sorted moved) (Contains-from_Member sorted z both.0)))))
    (λ z m. let both = of_filter (is_among row) range z m in
    in_picked range 0 sorted up z (Member-from_Contains sorted z (Contains-permutation row sorted z moved (Contains-from_Member row z (of_among row z both.1)))) (among range z both.0) (omega arith))

-- a rising list has no fall
pub no_fall : (range : List ℕ) → is_rising range ≡ true → (i j : ℕ) → i ≤ j → j < length range → get_or range i 0 ≤ get_or range j 0
no_fall [] rising i j le within = absurd (omega arith)
no_fall (x ∷ range) rising zero zero le within = omega arith
no_fall (x ∷ range) rising zero (suc j) le within =
    let up = above (x + 1) range (get_or range j 0) (rises_after x range rising) (Member-from_Contains range (get_or range j 0) (j, omega arith, get_or_default range j (get_or range j 0) 0 (omega arith))) in omega arith
no_fall (x ∷ range) rising (suc i) zero le within = absurd (omega arith)
no_fall (x ∷ []) rising (suc i) (suc j) le within = absurd (omega arith)
no_fall (x ∷ (y ∷ range)) rising (suc i) (suc j) le within = no_fall (y ∷ range) (and-parts (nat_lt x y) (is_rising (y ∷ range)) rising).1 i j (omega arith) (omega arith)

-- a search in a rising list finds the numbers that are among it
pub found_in : (range : List ℕ) (x : ℕ) (found : Result ℕ ℕ) → IsBinarySearchResult (λ y. nat_cmp y x) range found → is_rising range ≡ true → is_ok found ≡ is_among range x
found_in range x found result rising = by found (searched range x found result (no_fall range rising))
  where
    never : (i : ℕ) → ((k : ℕ) → k < i → get_or range k 0 < x) → ((k : ℕ) → i ≤ k → k < length range → x < get_or range k 0) → (b : Bool) → is_among range x ≡ b → false ≡ b
    never i less more false test = refl
    never i less more true test =
        let at = Contains-from_Member range x (of_among range x test) in
        let is : get_or range at.0 0 ≡ x = get_or_default range at.0 0 x at.1 ∙ at.2 in
        elim (cases_lt at.0 i) [ inl before ↦ (let down = less at.0 before in absurd (omega (arith, down, is))) | inr after ↦ (let up = more at.0 after at.1 in absurd (omega (arith, up, is))) ]
      where
        cases_lt : (a b : ℕ) → (a < b) ⊎ (b ≤ a)
        cases_lt a b = lt_or (nat_lt a b) refl
          where
            lt_or : (t : Bool) → nat_lt a b ≡ t → (a < b) ⊎ (b ≤ a)
            lt_or true test = inl (let less : a < b = grind (arith, nat_tests) in less)
            lt_or false test = inr (let most : b ≤ a = grind (arith, nat_tests) in most)

    by : (found : Result ℕ ℕ) → MatchResult found (λ i. (i < length range) × (get_or range i 0 ≡ x)) (λ i. (i ≤ length range) × ((k : ℕ) → k < i → get_or range k 0 < x) × ((k : ℕ) → i ≤ k → k < length range → x < get_or range k 0)) → is_ok found ≡ is_among range x
    by (Ok i) (within, is) = sym (among range x (Member-from_Contains range x (i, within, get_or_default range i x 0 within ∙ is)))
    by (Err i) (within, less, more) = never i less more (is_among range x) refl

-- the next number of a row is picked
pub pick_step : (range items : List ℕ) (least i object : ℕ) (row whole : List ℕ) → i < length row → object ≡ get_or row i object → least ≤ object → is_among range object ≡ true →
    items ++ picked range least (drop i row) ≡ whole → (items ++ object ∷ []) ++ picked range (object + 1) (drop (i + 1) row) ≡ whole
pick_step range items least i object row whole within is up in_range left =
    append_assoc items (object ∷ []) (picked range (object + 1) (drop (i + 1) row))
    ∙ ap (λ rest. items ++ rest) (pick_one range least object (drop (i + 1) row) up in_range ∙ sym (ap (picked range least) (drop_item row i object within is)))
    ∙ left

-- the next number of a row is passed over
pub pick_skip : (range items : List ℕ) (least i object : ℕ) (row whole : List ℕ) → i < length row → object ≡ get_or row i object →
    picked range least (drop (i + 1) row) ≡ picked range least (object ∷ drop (i + 1) row) → items ++ picked range least (drop i row) ≡ whole → items ++ picked range least (drop (i + 1) row) ≡ whole
pick_skip range items least i object row whole within is same left =
    ap (λ rest. items ++ rest) (same ∙ sym (ap (picked range least) (drop_item row i object within is))) ∙ left
