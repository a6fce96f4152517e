-- Lists: tests place by place, some item with those before it, concatenations, and lists without repetition.
use Rattle.std.specs.Prelude.{◌≡◌, ℕ, ◌&&◌, Bool, true, false, not, List, [], ◌∷◌, ◌++◌, Contains, map, ⊤}
use Rattle.std.specs.List.{flat_map, list_any}
use Rattle.std.specs.Str.{bytes_eq}

-- whether each test passes on the item at its place, and there are as many tests as items
abbrev pub each_passes : {A : Type 0} → List (A → Bool) → List A → Bool
each_passes [] [] = true
each_passes (test ∷ tests) (item ∷ items) = test item && each_passes tests items
each_passes tests items = false

-- some item of a list, of which this holds together with the items before it
pub record Somewhere {A : Type 0} (holds : List A → A → Type 0) (items : List A) : Type 0 where
  pub before : List A
  pub item : A
  pub after : List A
  pub split : items ≡ before ++ item ∷ after
  pub has : holds before item

-- the concatenations of one list from each place, in order, the last place varying fastest
abbrev pub concatenations : {A : Type 0} → List (List (List A)) → List (List A)
concatenations [] = [] ∷ []
concatenations (lists ∷ rest) = flat_map (λ list. map (λ more. list ++ more) (concatenations rest)) lists

-- no item occurs twice in a list
abbrev pub AreDistinct : {A : Type 0} → List A → Type 0
AreDistinct [] = ⊤
AreDistinct (item ∷ items) = (¬ Contains items item) × AreDistinct items

-- whether no text occurs twice in a list
abbrev pub are_distinct_texts : List (List ℕ) → Bool
are_distinct_texts [] = true
are_distinct_texts (text ∷ texts) = not (list_any (bytes_eq text) texts) && are_distinct_texts texts
