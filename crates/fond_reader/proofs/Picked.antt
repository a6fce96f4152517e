-- Lists of which the items that pass a test are read one by one: what was read so far.
use Rattle.std.proofs.Common.{◌≡◌, ℕ, ◌+◌, ◌<◌, Bool, true, false, List, [], ◌∷◌, ◌++◌, cond, filter, map, length, drop, get_or, refl, sym, ap, ◌∙◌, append_assoc, append-nil}
use Rattle.std.proofs.lemmas.List.Elements.{filter-append}
use Rattle.fond_text.specs.Lists.{each_passes}
use Rattle.fond_reader.proofs.Through.{both_hold, left_at, maps_append}

module _ {X T : Type 0} (read : X → T → Bool) (test : T → Bool) where
  -- these were read from those of the first items that pass the test
  pub record Picked (all left : List T) (xs : List X) : Type 0 where
    pub front : List T
    pub split : all ≡ front ++ left
    pub read_so_far : each_passes (map read xs) (filter test front) ≡ true

  module _ (all : List T) where
    module _ (i : ℕ) (t : T) (below : i < length all) (at : t ≡ get_or all i t) where
      along : (front : List T) → all ≡ front ++ drop i all → all ≡ (front ++ t ∷ []) ++ drop (i + 1) all
      along front split = split ∙ ap (λ ts. front ++ ts) (left_at all i t below at) ∙ sym (append_assoc front (t ∷ []) (drop (i + 1) all))

      with_one : (front : List T) (b : Bool) → test t ≡ b → filter test (front ++ t ∷ []) ≡ filter test front ++ cond b (t ∷ []) []
      with_one front b is = filter-append test front (t ∷ []) ∙ ap (λ v. filter test front ++ cond v (t ∷ []) []) is

      -- an item that passes is read
      pub one_picked : (xs more : List X) (x : X) → more ≡ xs ++ x ∷ [] → test t ≡ true → Picked all (drop i all) xs → read x t ≡ true → Picked all (drop (i + 1) all) more
      one_picked xs more x grown passes so_far one = record {
        front = so_far.front ++ t ∷ [];
        split = along so_far.front so_far.split;
        read_so_far = rw (grown, with_one so_far.front true passes) (maps_append read xs (x ∷ []) (filter test so_far.front) (t ∷ []) so_far.read_so_far (both_hold _ _ one refl));
      }

      -- another item is passed over
      pub none_more : (xs more : List X) → more ≡ xs → test t ≡ false → Picked all (drop i all) xs → Picked all (drop (i + 1) all) more
      none_more xs more same fails so_far = record {
        front = so_far.front ++ t ∷ [];
        split = along so_far.front so_far.split;
        read_so_far = rw (same, with_one so_far.front false fails ∙ append-nil (filter test so_far.front)) so_far.read_so_far;
      }
