-- The ranges of variables.
use Rattle.std.specs.Prelude.{ℕ, ◌==◌, ◌&&◌, nat_lt, Bool, true, List, [], ◌∷◌, map}
use Rattle.std.specs.List.{list_any}
use Rattle.std.specs.declared.alloc.Global.{Global}
use Rattle.std.specs.declared.rc.Rc.{Rc}

-- ranges as tasks have them: lists of objects, some of which may be shared
abbrev pub RangeList : Type 0
RangeList = List (Rc (List ℕ) Global)

-- the objects of each range
abbrev pub objects_of : RangeList → List (List ℕ)
objects_of ranges = map (λ range. range.value) ranges

-- whether an object is in a range
abbrev pub is_among : List ℕ → ℕ → Bool
is_among range object = list_any (λ other. other == object) range

-- whether each object of a range comes before the next one
abbrev pub is_rising : List ℕ → Bool
is_rising [] = true
is_rising (object ∷ []) = true
is_rising (object ∷ next ∷ objects) = nat_lt object next && is_rising (next ∷ objects)
