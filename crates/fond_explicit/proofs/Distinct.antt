-- Lists without repetition.
use Rattle.std.proofs.Common.{◌≡◌, ℕ, zero, suc, List, [], ◌∷◌, ◌++◌, Bool, Some, slice_get, refl, sym, ap, ◌∙◌, subst, ⊎_elim, arith}
use Rattle.std.specs.Prelude.{Contains}
use Rattle.std.specs.List.{flat_map}
use Rattle.std.proofs.lemmas.List.Elements.{Contains-append_cases}
use Rattle.std.proofs.lemmas.Option.{none-some, same_Some}
use Rattle.fond_text.specs.Lists.{AreDistinct}
use Rattle.fond_state.specs.Cubes.{full_cube}
use Rattle.fond_task.proofs.Lists.{Contains_numbered, Contains-here, Contains-later, Contains-cases}

module _ {X : Type 0} where
  pub nothing_in : (x : X) → ¬ Contains [] x
  nothing_in x has = omega (arith, has.1)

  -- an item has one number
  pub one_number : (xs : List X) → AreDistinct xs → (i j : ℕ) (x : X) → slice_get xs i ≡ Some x → slice_get xs j ≡ Some x → i ≡ j
  one_number [] distinct i j x at also = absurd (none-some x at)
  one_number (y ∷ xs) distinct zero zero x at also = refl
  one_number (y ∷ xs) distinct zero (suc j) x at also = absurd (distinct.0 (subst (Contains xs) (sym (same_Some y x at)) (Contains_numbered xs j x also)))
  one_number (y ∷ xs) distinct (suc i) zero x at also = absurd (distinct.0 (subst (Contains xs) (sym (same_Some y x also)) (Contains_numbered xs i x at)))
  one_number (y ∷ xs) distinct (suc i) (suc j) x at also = ap suc (one_number xs distinct.1 i j x at also)

  -- two lists without repetition that share no item
  pub distinct-append : (xs ys : List X) → AreDistinct xs → AreDistinct ys → ((x : X) → Contains xs x → ¬ Contains ys x) → AreDistinct (xs ++ ys)
  distinct-append [] ys left right apart = right
  distinct-append (x ∷ xs) ys left right apart = (
    λ has. ⊎_elim (λ early. left.0 early) (λ late. apart x (Contains-here x xs) late) (Contains-append_cases xs ys x has),
    distinct-append xs ys left.1 right (λ y has. apart y (Contains-later y x xs has)),
  )

  -- one more item at the end
  pub distinct-push : (xs : List X) (x : X) → AreDistinct xs → ¬ Contains xs x → AreDistinct (xs ++ x ∷ [])
  distinct-push xs x distinct new = distinct-append xs (x ∷ []) distinct (nothing_in x, tt) (λ y has also. ⊎_elim (λ same. new (subst (Contains xs) (sym same) has)) (λ none. nothing_in y none) (Contains-cases y x [] also))

  -- an item of some list among lists
  pub record IsInOne (lists : List (List X)) (x : X) : Type 0 where
    pub number : ℕ
    pub list : List X
    pub numbered : slice_get lists number ≡ Some list
    pub has : Contains list x

  in_one : (lists : List (List X)) (x : X) → Contains (flat_map (λ list. list) lists) x → IsInOne lists x
  in_one [] x has = absurd (nothing_in x has)
  in_one (list ∷ lists) x has = ⊎_elim
      (λ here. record { number = zero; list = list; numbered = refl; has = here })
      (λ later. let rest = in_one lists x later in record { number = suc rest.number; list = rest.list; numbered = rest.numbered; has = rest.has })
      (Contains-append_cases list (flat_map (λ list. list) lists) x has)

  -- lists without repetition, no two of which share an item, one after the other
  pub distinct-concat : (lists : List (List X)) → ((number : ℕ) (list : List X) → slice_get lists number ≡ Some list → AreDistinct list) →
      ((i j : ℕ) (one other : List X) (x : X) → slice_get lists i ≡ Some one → slice_get lists j ≡ Some other → Contains one x → Contains other x → i ≡ j) →
      AreDistinct (flat_map (λ list. list) lists)
  distinct-concat [] each apart = tt
  distinct-concat (list ∷ lists) each apart = distinct-append list (flat_map (λ list. list) lists) (each zero list refl)
      (distinct-concat lists (λ number one at. each (suc number) one at) (λ i j one other x at also has too. (let same : suc i ≡ suc j = apart (suc i) (suc j) one other x at also has too in omega arith)))
      (λ x has later. let other = in_one lists x later in (let same : zero ≡ suc other.number = apart zero (suc other.number) list other.list x refl other.numbered has other.has in omega arith))

-- a state is that of its full cube
pub same_full : (x y : List Bool) → full_cube x ≡ full_cube y → x ≡ y
same_full [] [] same = refl
same_full [] (b ∷ y) same = absurd (cc)
same_full (a ∷ x) [] same = absurd (cc)
same_full (a ∷ x) (b ∷ y) same =
    let heads : Some a ≡ Some b = cc in
    let rest : full_cube x ≡ full_cube y = cc in
    ap (λ v. v ∷ x) (same_Some a b heads) ∙ ap (λ xs. b ∷ xs) (same_full x y rest)
