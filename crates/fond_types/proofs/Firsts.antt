-- The first items of each name.
use Rattle.std.proofs.Common.{◌≡◌, ℕ, zero, suc, ◌<◌, ◌||◌, Bool, true, false, not, cond, List, [], ◌∷◌, ◌++◌, Some, fold, find, map, length, slice_get, slice_index_or, refl, sym, ap, ◌∙◌, arith, append-nil, append_assoc}
use Rattle.std.specs.Prelude.{if◌then◌else◌}
use Rattle.std.specs.List.{list_any}
use Rattle.std.specs.Option.{option_or}
use Rattle.std.specs.Str.{bytes_eq}
use Rattle.std.specs.Cmp.Lexicographic.{bytes_decides, nat_list_eq_equiv}
use Rattle.std.proofs.lemmas.List.{map-append}
use Rattle.std.proofs.lemmas.List.Folds.{find-append, list_any-append}
use Rattle.fond_text.specs.Lists.{are_distinct_texts}
use Rattle.fond_types.specs.Meanings.{name_also}
use Rattle.fond_names.specs.Names.{is_among, named_also, firsts}
use Rattle.fond_names.proofs.Members.{and_parts, and_both}

module _ {A : Type 0} (name : A → List ℕ) where
  also_named : (items : List A) (item : A) → map name (named_also name items item) ≡ name_also (map name items) (name item)
  also_named items item = by (is_among (map name items) (name item))
    where
      by : (b : Bool) → map name (if b then items else items ++ item ∷ []) ≡ (if b then map name items else map name items ++ name item ∷ [])
      by true = refl
      by false = map-append name items (item ∷ [])

  -- the names of first items
  pub names_of_firsts : (before items : List A) → map name (fold (named_also name) before items) ≡ fold name_also (map name before) (map name items)
  names_of_firsts before [] = refl
  names_of_firsts before (item ∷ items) = names_of_firsts (named_also name before item) items ∙ ap (λ names. fold name_also names (map name items)) (also_named before item)

  -- the first item of a name among first items, and else among the others
  found_first : (wanted : List ℕ) (before items : List A) → find (λ item. bytes_eq (name item) wanted) (fold (named_also name) before items) ≡ find (λ item. bytes_eq (name item) wanted) (before ++ items)
  found_first wanted before [] = ap (find (λ item. bytes_eq (name item) wanted)) (sym (append-nil before))
  found_first wanted before (item ∷ items) =
      found_first wanted (named_also name before item) items ∙ by (is_among (map name before) (name item)) refl
    where
      among : (xs : List A) (text : List ℕ) → is_among (map name xs) text ≡ true → bytes_eq text wanted ≡ true → (x : A) × (find (λ one. bytes_eq (name one) wanted) xs ≡ Some x)
      among [] text there same = cc
      among (x ∷ xs) text there same = go (bytes_eq (name x) wanted) refl (bytes_eq text (name x)) refl (λ rest. among xs text rest same) there
        where
          go : (b : Bool) → bytes_eq (name x) wanted ≡ b → (d : Bool) → bytes_eq text (name x) ≡ d → (is_among (map name xs) text ≡ true → (y : A) × (find (λ one. bytes_eq (name one) wanted) xs ≡ Some y)) → (d || is_among (map name xs) text) ≡ true →
              (y : A) × (cond b (Some x) (find (λ one. bytes_eq (name one) wanted) xs) ≡ Some y)
          go true e d f later h = (x, refl)
          go false e false f later h = later h
          go false e true f later h = let other : true ≡ false = sym same ∙ ap (λ t. bytes_eq t wanted) ((bytes_decides text (name x)).0 f) ∙ e in absurd (cc (other))

      skip : (b : Bool) → bytes_eq (name item) wanted ≡ b → is_among (map name before) (name item) ≡ true → option_or (find (λ one. bytes_eq (name one) wanted) before) (find (λ one. bytes_eq (name one) wanted) items) ≡ option_or (find (λ one. bytes_eq (name one) wanted) before) (cond b (Some item) (find (λ one. bytes_eq (name one) wanted) items))
      skip false e there = refl
      skip true e there =
          let some = among before (name item) there e in
          ap (λ first. option_or first (find (λ one. bytes_eq (name one) wanted) items)) some.1 ∙ sym (ap (λ first. option_or first (Some item)) some.1)

      by : (b : Bool) → is_among (map name before) (name item) ≡ b → find (λ one. bytes_eq (name one) wanted) ((if b then before else before ++ item ∷ []) ++ items) ≡ find (λ one. bytes_eq (name one) wanted) (before ++ (item ∷ items))
      by true there =
          find-append (λ one. bytes_eq (name one) wanted) before items ∙ skip (bytes_eq (name item) wanted) refl there ∙ sym (find-append (λ one. bytes_eq (name one) wanted) before (item ∷ items))
      by false new = ap (find (λ one. bytes_eq (name one) wanted)) (append_assoc before (item ∷ []) items)

  -- the first item of a name among the first items is that among all
  pub find-firsts : (wanted : List ℕ) (items : List A) → find (λ item. bytes_eq (name item) wanted) (firsts name items) ≡ find (λ item. bytes_eq (name item) wanted) items
  find-firsts wanted items = found_first wanted [] items

not_among_more : (names : List (List ℕ)) (name other : List ℕ) → is_among names name ≡ false → bytes_eq name other ≡ false → is_among (names ++ other ∷ []) name ≡ false
not_among_more names name other none differs = list_any-append (bytes_eq name) names (other ∷ []) ∙ ap (λ b. b || (bytes_eq name other || false)) none ∙ ap (λ b. b || false) differs

distinct_more : (names : List (List ℕ)) (name : List ℕ) → are_distinct_texts names ≡ true → is_among names name ≡ false → are_distinct_texts (names ++ name ∷ []) ≡ true
distinct_more [] name d none = refl
distinct_more (first ∷ names) name d none =
    let both = and_parts (not (list_any (bytes_eq first) names)) (are_distinct_texts names) d in
    let other = or_false (bytes_eq name first) (is_among names name) none in
    let unlike : bytes_eq first name ≡ false = nat_list_eq_equiv.symm first name ∙ other.0 in
    let fresh : list_any (bytes_eq first) (names ++ name ∷ []) ≡ false = not_among_more names first name (not_true (list_any (bytes_eq first) names) both.0) unlike in
    and_both (not (list_any (bytes_eq first) (names ++ name ∷ []))) (are_distinct_texts (names ++ name ∷ [])) (ap not fresh) (distinct_more names name both.1 other.1)
  where
    or_false : (a b : Bool) → (a || b) ≡ false → (a ≡ false) × (b ≡ false)
    or_false false b e = (refl, e)
    or_false true b e = cc

    not_true : (b : Bool) → not b ≡ true → b ≡ false
    not_true true e = sym e
    not_true false e = refl

-- names that were put one by one are distinct
pub distinct_names : (before names : List (List ℕ)) → are_distinct_texts before ≡ true → are_distinct_texts (fold name_also before names) ≡ true
distinct_names before [] d = d
distinct_names before (name ∷ names) d = distinct_names (name_also before name) names (by (is_among before name) refl)
  where
    by : (b : Bool) → is_among before name ≡ b → are_distinct_texts (if b then before else before ++ name ∷ []) ≡ true
    by true e = d
    by false e = distinct_more before name d e

module _ {A : Type 0} (name : A → List ℕ) where
  -- among items with distinct names, the item at a number is the first of its name
  pub found_at_number : (items : List A) (number : ℕ) (wanted : List ℕ) → are_distinct_texts (map name items) ≡ true → number < length (map name items) → bytes_eq (slice_index_or (map name items) number []) wanted ≡ true →
      slice_get items number ≡ find (λ item. bytes_eq (name item) wanted) items
  found_at_number [] number wanted d low same = absurd (omega (arith, low))
  found_at_number (item ∷ items) zero wanted d low same = sym (ap (λ b. cond b (Some item) (find (λ one. bytes_eq (name one) wanted) items)) same)
  found_at_number (item ∷ items) (suc number) wanted d low same =
      let both = and_parts (not (list_any (bytes_eq (name item)) (map name items))) (are_distinct_texts (map name items)) d in
      go (bytes_eq (name item) wanted) refl (found_at_number items number wanted both.1 (omega (arith, low)) same) both.0
    where
      among : (xs : List (List ℕ)) (n : ℕ) → n < length xs → bytes_eq (slice_index_or xs n []) wanted ≡ true → bytes_eq (name item) wanted ≡ true → list_any (bytes_eq (name item)) xs ≡ true
      among [] n low same own = absurd (omega (arith, low))
      among (x ∷ xs) zero low same own =
          ap (λ b. b || list_any (bytes_eq (name item)) xs) ((bytes_decides (name item) x).1 ((bytes_decides (name item) wanted).0 own ∙ sym ((bytes_decides x wanted).0 same)))
      among (x ∷ xs) (suc n) low same own = or_later (bytes_eq (name item) x) (list_any (bytes_eq (name item)) xs) (among xs n (omega (arith, low)) same own)
        where
          or_later : (a b : Bool) → b ≡ true → (a || b) ≡ true
          or_later true b h = refl
          or_later false b h = h

      go : (b : Bool) → bytes_eq (name item) wanted ≡ b → slice_get items number ≡ find (λ one. bytes_eq (name one) wanted) items → not (list_any (bytes_eq (name item)) (map name items)) ≡ true → slice_get items number ≡ cond b (Some item) (find (λ one. bytes_eq (name one) wanted) items)
      go false e rest fresh = rest
      go true e rest fresh =
          let there : list_any (bytes_eq (name item)) (map name items) ≡ true = among (map name items) number (omega (arith, low)) same e in
          let other : false ≡ true = sym (ap not there) ∙ fresh in absurd (cc (other))

  -- the item of a number that has a name
  pub item_of_number : (items : List A) (number : ℕ) (wanted : List ℕ) → number < length (map name (firsts name items)) → bytes_eq (slice_index_or (map name (firsts name items)) number []) wanted ≡ true →
      slice_get (firsts name items) number ≡ find (λ item. bytes_eq (name item) wanted) items
  item_of_number items number wanted low same =
      let distinct : are_distinct_texts (map name (firsts name items)) ≡ true = ap are_distinct_texts (names_of_firsts name [] items) ∙ distinct_names [] (map name items) refl in
      found_at_number (firsts name items) number wanted distinct low same ∙ find-firsts name wanted items
