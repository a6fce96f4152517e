-- Going through the lists of one object of each range by the places of the objects in their ranges.
use Rattle.std.specs.Prelude.{◌≡◌, ℕ, ◌+◌, Bool, true, false, List, [], ◌∷◌, ◌++◌, map, drop, slice_index_or}
use Rattle.std.specs.List.{flat_map, list_all}
use Rattle.fond_ast.specs.Conditions.{tuples}

-- whether a range has an object
abbrev pub has_object : List ℕ → Bool
has_object [] = false
has_object (object ∷ range) = true

-- whether each range has an object
abbrev pub have_objects : List (List ℕ) → Bool
have_objects = list_all has_object

-- the objects of ranges at these places
abbrev pub objects_at : List (List ℕ) → List ℕ → List ℕ
objects_at [] places = []
objects_at (range ∷ ranges) [] = []
objects_at (range ∷ ranges) (place ∷ places) = slice_index_or range place 0 ∷ objects_at ranges places

-- the lists of one object of each range that come after the one at these places, in order
abbrev pub tuples_after : List (List ℕ) → List ℕ → List (List ℕ)
tuples_after [] places = []
tuples_after (range ∷ ranges) [] = []
tuples_after (range ∷ ranges) (place ∷ places) =
    map (λ objects. slice_index_or range place 0 ∷ objects) (tuples_after ranges places)
    ++ flat_map (λ object. map (λ objects. object ∷ objects) (tuples ranges)) (drop (place + 1) range)

-- the lists of one object of each range from the one at these places on, in order, or none if they are done
abbrev pub tuples_from : Bool → List (List ℕ) → List ℕ → List (List ℕ)
tuples_from true ranges places = []
tuples_from false ranges places = objects_at ranges places ∷ tuples_after ranges places

-- one step forward in lists: the first of the lists is put after these objects, and the others are left
pub record TakesFirst (before after : List (List ℕ)) (env next : List ℕ) : Type 0 where
  pub objects : List ℕ
  pub split : before ≡ objects ∷ after
  pub put : next ≡ env ++ objects
