-- What was tried of the elements of a list, one after the other.
use Rattle.std.proofs.Common.{◌≡◌, ℕ, ◌+◌, ◌<◌, ◌≤◌, List, Bool, true, false, Some, length, take, get_or, slice_get, refl, sym, ap, ◌∙◌, subst, ⊎_elim, arith}
use Rattle.std.specs.Prelude.{◌&&◌, ◌||◌, Contains, Decides}
use Rattle.std.proofs.lemmas.Bool.{cases_lt}
use Rattle.std.proofs.lemmas.Grind.{common_steps}
use Rattle.std.proofs.lemmas.List.Elements.{at_read}
use Rattle.std.proofs.lemmas.Option.{slice_get-get_or, slice_get_within, get_or_from_slice_get, same_Some}

module _ {X : Type 0} (xs : List X) where
  -- an element that was read is at its place
  pub read_at : (i : ℕ) (x : X) → i < length xs → x ≡ get_or xs i x → slice_get xs i ≡ Some x
  read_at i x within is = slice_get-get_or xs i x within ∙ ap (λ y. Some y) (sym is)

  -- an element that was read is one of the list
  pub read_Contains : (i : ℕ) (x : X) → i < length xs → x ≡ get_or xs i x → Contains xs x
  read_Contains i x within is = (i, within, sym is)

  module _ (P : X → Type 0) where
    -- this holds of the elements before an index
    abbrev pub AllBefore : ℕ → Type 0
    AllBefore i = (k : ℕ) (d : X) → k < i → P (get_or xs k d)

    pub all_more : (i : ℕ) (x : X) → i < length xs → x ≡ get_or xs i x → P x → AllBefore i → AllBefore (i + 1)
    all_more i x within is here before = λ k d small. ⊎_elim
        (λ lt. before k d lt)
        (λ ge.
        let same : i ≡ k = omega arith in
        subst (λ n. P (get_or xs n d)) same (at_read xs P i x within is here d))
        (cases_lt k i)

    -- it then holds of each that is among the first
    pub all_front : (i : ℕ) → i ≤ length xs → AllBefore i → (x : X) → Contains (take i xs) x → P x
    all_front i within before x has =
        let small : has.0 < i = grind (arith, common_steps, has.1) in
        let same : get_or xs has.0 x ≡ x = grind (arith, common_steps, has.1, has.2) in
        subst P same (before has.0 x small)

    pub all_of : (i : ℕ) → length xs ≤ i → AllBefore i → (x : X) → Contains xs x → P x
    all_of i end before x has = subst P has.2 (before has.0 x (omega (arith, has.1)))

    -- this holds of one of the elements before an index
    abbrev pub SomeBefore : ℕ → Type 0
    SomeBefore i = (k : ℕ) × (x : X) × (k < i) × (slice_get xs k ≡ Some x) × P x

    -- one more element was tested
    pub some_more : (i : ℕ) (x : X) → i < length xs → x ≡ get_or xs i x → (some here : Bool) → Decides here (P x) → Decides some (SomeBefore i) → Decides (some || here) (SomeBefore (i + 1))
    some_more i x within is some here tested before = (told some here tested before, found)
      where
        told : (some here : Bool) → Decides here (P x) → Decides some (SomeBefore i) → (some || here) ≡ true → SomeBefore (i + 1)
        told true here tested before e = let was = before.0 refl in (was.0, was.1, omega (arith, was.2), was.3, was.4)
        told false here tested before e = (i, x, omega arith, read_at i x within is, tested.0 e)

        or_true : (s h : Bool) → h ≡ true → (s || h) ≡ true
        or_true true h e = refl
        or_true false h e = e

        or_first : (s h : Bool) → s ≡ true → (s || h) ≡ true
        or_first true h e = refl
        or_first false h e = absurd (cc)

        found : SomeBefore (i + 1) → (some || here) ≡ true
        found one = ⊎_elim
            (λ lt. or_first some here (before.1 (one.0, one.1, lt, one.3, one.4)))
            (λ ge.
            let same : one.0 ≡ i = omega (arith, one.2) in
            let item : one.1 ≡ x = same_Some one.1 x (sym one.3 ∙ ap (slice_get xs) same ∙ read_at i x within is) in
            or_true some here (tested.1 (subst P item one.4)))
            (cases_lt one.0 i)

    pub each_more : (i : ℕ) (x : X) → i < length xs → x ≡ get_or xs i x → (each here : Bool) → Decides here (P x) → Decides each (AllBefore i) → Decides (each && here) (AllBefore (i + 1))
    each_more i x within is each here tested before = (told each here tested before, found)
      where
        told : (each here : Bool) → Decides here (P x) → Decides each (AllBefore i) → (each && here) ≡ true → AllBefore (i + 1)
        told true here tested before e = all_more i x within is (tested.0 e) (before.0 refl)
        told false here tested before e = absurd (cc)

        and_true : (e h : Bool) → e ≡ true → h ≡ true → (e && h) ≡ true
        and_true true h first second = second
        and_true false h first second = first

        found : AllBefore (i + 1) → (each && here) ≡ true
        found all = and_true each here (before.1 (λ k d small. all k d (omega arith)))
            (tested.1 (let at : get_or xs i x ≡ x = sym is in subst P at (all i x (omega arith))))

    -- one of all elements, by its index and as a member
    pub some_of : (i : ℕ) → length xs ≤ i → SomeBefore i → (x : X) × Contains xs x × P x
    some_of i end one = (one.1, (one.0, slice_get_within xs one.0 one.1 one.3, get_or_from_slice_get xs one.0 one.1 one.1 one.3), one.4)

    pub some_before : (i : ℕ) → length xs ≤ i → (x : X) × Contains xs x × P x → SomeBefore i
    some_before i end one =
        let has = one.1 in
        (has.0, one.0, omega (arith, has.1), slice_get-get_or xs has.0 one.0 has.1 ∙ ap (λ y. Some y) has.2, one.2)
