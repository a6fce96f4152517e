-- Members of lists that are joined, moved or made from other lists.
use Rattle.std.proofs.Common.{◌≡◌, ℕ, zero, suc, ◌+◌, ◌<◌, List, [], ◌∷◌, ◌++◌, Bool, true, false, All, cond, refl, sym, ap, ◌∙◌, subst, inl, inr, ⊎_elim, arith, add-one}
use Rattle.std.specs.Prelude.{◌⊎◌, Contains}
use Rattle.std.specs.List.{filter, flat_map, range_with_len}
use Rattle.std.specs.List.Sorted.{IsPermutation}
use Rattle.std.proofs.lemmas.List.Elements.{All-contains, Contains-append_left, Contains-append_right, Contains-append_cases, Contains-push_cases, All-contains_itself}
use Rattle.std.proofs.lemmas.List.FromFn.{length-range_with_len, get_or-range_with_len}
use Rattle.std.proofs.lemmas.List.Sorted.{Contains-permutation}

module _ {X : Type 0} where
  pub no_member : (x : X) → ¬ Contains [] x
  no_member x has = omega (arith, has.1)

  pub first_member : (x : X) (xs : List X) → Contains (x ∷ xs) x
  first_member x xs = (0, omega arith, refl)

  pub later_member : (x : X) (xs : List X) (y : X) → Contains xs y → Contains (x ∷ xs) y
  later_member x xs y has = Contains-append_right (x ∷ []) xs y has

  pub only_member : (x y : X) → Contains (x ∷ []) y → x ≡ y
  only_member x y has = ⊎_elim (λ none. absurd (no_member y none)) (λ is. is) (Contains-push_cases [] x y has)

  pub member_cases : (x : X) (xs : List X) (y : X) → Contains (x ∷ xs) y → (x ≡ y) ⊎ Contains xs y
  member_cases x xs y has = ⊎_elim (λ one. inl (only_member x y one)) (λ there. inr there) (Contains-append_cases (x ∷ []) xs y has)

  -- members of two lists, by those of each
  pub both_members : (xs ys us vs : List X) (y : X) → (Contains xs y → Contains us y) → (Contains ys y → Contains vs y) → Contains (xs ++ ys) y → Contains (us ++ vs) y
  both_members xs ys us vs y left right has =
      ⊎_elim (λ one. Contains-append_left us vs y (left one)) (λ one. Contains-append_right us vs y (right one)) (Contains-append_cases xs ys y has)

  -- the last two of three lists change places
  pub swapped_member : (xs ys zs : List X) (y : X) → Contains ((xs ++ ys) ++ zs) y → Contains ((xs ++ zs) ++ ys) y
  swapped_member xs ys zs y has = ⊎_elim
      (λ front. ⊎_elim
      (λ one. Contains-append_left (xs ++ zs) ys y (Contains-append_left xs zs y one))
      (λ one. Contains-append_right (xs ++ zs) ys y one)
      (Contains-append_cases xs ys y front))
      (λ one. Contains-append_left (xs ++ zs) ys y (Contains-append_right xs zs y one))
      (Contains-append_cases (xs ++ ys) zs y has)

  pub member_if : (b : Bool) (xs : List X) (y : X) → Contains (cond b xs []) y → Contains xs y
  member_if true xs y has = has
  member_if false xs y has = absurd (no_member y has)

  pub tested_if : (b : Bool) (xs : List X) (y : X) → Contains (cond b xs []) y → b ≡ true
  tested_if true xs y has = refl
  tested_if false xs y has = absurd (no_member y has)

  pub both_if : (b : Bool) (xs ys : List X) (y : X) → (Contains xs y → Contains ys y) → Contains (cond b xs []) y → Contains (cond b ys []) y
  both_if true xs ys y to has = to has
  both_if false xs ys y to has = has

  pub All-from_members : (P : X → Type 0) (xs : List X) → ((x : X) → Contains xs x → P x) → All P xs
  All-from_members P xs each = λ k d small. each _ (All-contains_itself xs k d small)

  pub All-front : (P : X → Type 0) (xs ys : List X) → All P (xs ++ ys) → All P xs
  All-front P xs ys all = All-from_members P xs (λ x has. All-contains P (xs ++ ys) x all (Contains-append_left xs ys x has))

  pub All-back : (P : X → Type 0) (xs ys : List X) → All P (xs ++ ys) → All P ys
  All-back P xs ys all = All-from_members P ys (λ y has. All-contains P (xs ++ ys) y all (Contains-append_right xs ys y has))

module _ {X : Type 0} (test : X → Bool) where
  -- members of a filtered list are those members that pass
  filter_cases : (b : Bool) (x : X) (xs : List X) (y : X) → test x ≡ b → Contains (cond b (x ∷ filter test xs) (filter test xs)) y → ((test x ≡ true) × (x ≡ y)) ⊎ Contains (filter test xs) y
  filter_cases true x xs y is has = ⊎_elim (λ one. inl (is, one)) (λ there. inr there) (member_cases x (filter test xs) y has)
  filter_cases false x xs y is has = inr has

  pub from_filter : (xs : List X) (y : X) → Contains (filter test xs) y → Contains xs y
  from_filter [] y has = has
  from_filter (x ∷ xs) y has = ⊎_elim
      (λ one. let P : X → Type 0 = λ y. Contains (x ∷ xs) y in subst P one.1 (first_member x xs))
      (λ there. later_member x xs y (from_filter xs y there))
      (filter_cases (test x) x xs y refl has)

  pub passed_filter : (xs : List X) (y : X) → Contains (filter test xs) y → test y ≡ true
  passed_filter [] y has = absurd (no_member y has)
  passed_filter (x ∷ xs) y has = ⊎_elim
      (λ one. ap test (sym one.1) ∙ one.0)
      (λ there. passed_filter xs y there)
      (filter_cases (test x) x xs y refl has)

  in_rest : (b : Bool) (x : X) (xs : List X) (y : X) → Contains (filter test xs) y → Contains (cond b (x ∷ filter test xs) (filter test xs)) y
  in_rest true x xs y has = later_member x (filter test xs) y has
  in_rest false x xs y has = has

  pub in_filter : (xs : List X) (y : X) → Contains xs y → test y ≡ true → Contains (filter test xs) y
  in_filter [] y has passes = has
  in_filter (x ∷ xs) y has passes = ⊎_elim
      (λ one.
      let here : test x ≡ true = ap test one ∙ passes in
      let P : Bool → Type 0 = λ b. Contains (cond b (x ∷ filter test xs) (filter test xs)) y in
      let Q : X → Type 0 = λ y. Contains (x ∷ filter test xs) y in
      subst P (sym here) (subst Q one (first_member x (filter test xs))))
      (λ there. in_rest (test x) x xs y (in_filter xs y there passes))
      (member_cases x xs y has)

module _ {X A : Type 0} (f : X → List A) where
  -- a member of lists that are joined is one of some list
  pub from_list : (xs : List X) (y : A) → Contains (flat_map f xs) y → (x : X) × Contains xs x × Contains (f x) y
  from_list [] y has = absurd (no_member y has)
  from_list (x ∷ xs) y has = ⊎_elim
      (λ here. (x, first_member x xs, here))
      (λ there. let one = from_list xs y there in (one.0, later_member x xs one.0 one.1, one.2))
      (Contains-append_cases (f x) (flat_map f xs) y has)

  pub in_list : (xs : List X) (x : X) (y : A) → Contains xs x → Contains (f x) y → Contains (flat_map f xs) y
  in_list [] x y one has = absurd (no_member x one)
  in_list (first ∷ xs) x y one has = ⊎_elim
      (λ is. let P : X → Type 0 = λ x. Contains (f x) y in Contains-append_left (f first) (flat_map f xs) y (subst P (sym is) has))
      (λ there. Contains-append_right (f first) (flat_map f xs) y (in_list xs x y there has))
      (member_cases first xs x one)

  pub permuted : (xs ys : List X) (y : A) → IsPermutation xs ys → Contains (flat_map f xs) y → Contains (flat_map f ys) y
  permuted xs ys y moved has = let one = from_list xs y has in in_list ys one.0 y (Contains-permutation xs ys one.0 moved one.1) one.2

-- the numbers below one more
pub range_with_len_more : (a n : ℕ) → range_with_len a (n + 1) ≡ range_with_len a n ++ (a + n) ∷ []
range_with_len_more a zero = let same : a ≡ a + zero = omega arith in ap (λ k. k ∷ []) same
range_with_len_more a (suc n) =
    let same : a + 1 + n ≡ a + suc n = omega arith in
    rw (add-one) (ap (λ ks. a ∷ ks) (sym (ap (range_with_len (a + 1)) (add-one n)) ∙ range_with_len_more (a + 1) n ∙ ap (λ k. range_with_len (a + 1) n ++ k ∷ []) same))

pub range_member : (n k : ℕ) → k < n → Contains (range_with_len 0 n) k
range_member n k small = (k, omega (arith, small, length-range_with_len 0 n), omega (arith, get_or-range_with_len 0 n k k small))

pub range_below : (n k : ℕ) → Contains (range_with_len 0 n) k → k < n
range_below n k has =
    let within : has.0 < n = omega (arith, has.1, length-range_with_len 0 n) in
    omega (arith, within, get_or-range_with_len 0 n has.0 k within, has.2)
